-- What this crate says in words of what lies below it, in one place.
pub use Rattle.std.specs.Cmp.Lexicographic.{pointwise}
pub use Rattle.std.specs.Int.{bit_at}
pub use Rattle.std.specs.List.{All, filter, list_all, list_any, position_from, range_with_len}
pub use Rattle.std.specs.Option.{option_map}
pub use Rattle.std.specs.declared.net.ipv4_addr.Ipv4Addr.{Ipv4Addr}
unfoldable pub use Rattle.gts_alphabet.specs.Cited.{dec}
pub use Rattle.gts_alphabet.specs.declared.limits.TheConstants.{LONGEST_MESSAGE, MOST_CIRCUITS}
pub use Rattle.gts_heading.specs.Cited.{HeadingFields, fields_of}
pub use Rattle.gts_directory.specs.Cited.{Circuit, Directory, Rule, agrees, bit, circuit_of, circuit_of_row, circuits_in, is_named, level_of, mask_of, matches, named, peer_of, rule_of_row}
pub use Rattle.gts_directory.specs.declared.limits.TheConstants.{MOST_KEPT, MOST_RULES}
pub use Rattle.gts_directory.specs.declared.rows.CircuitRow.{CircuitRow}
pub use Rattle.gts_directory.specs.declared.rows.RuleRow.{RuleRow}
pub use Rattle.gts_dirfile.specs.Cited.{AreRulesOf}
