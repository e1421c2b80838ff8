-- What this crate says in words of what lies below it, in one place.
pub use Rattle.std.specs.Cmp.Lexicographic.{pointwise}
pub use Rattle.std.specs.Int.{bit_at, w64}
pub use Rattle.std.specs.List.{All, filter_map, list_all, list_any, range_with_len}
pub use Rattle.std.specs.Map.Iter.{deref_pair}
pub use Rattle.std.specs.Net.Addr.{ipv4_octets}
pub use Rattle.std.specs.Net.Grammar.{IsDotted, IsIpv4Text}
pub use Rattle.std.specs.Net.Reader.{Read, whole_value}
pub use Rattle.std.specs.Option.{option_or}
pub use Rattle.std.specs.Str.{IsUtf8, is_utf8}
pub use Rattle.std.specs.declared.net.ipv4_addr.Ipv4Addr.{Ipv4Addr}
pub use Rattle.toml.specs.Data.{Data, Items, Members, as_array, as_bool, as_integer, as_str, as_table, get_member, item, member, no_items, no_members}
pub use Rattle.toml.specs.Parse.{parse_document}
pub use Rattle.toml.specs.View.{items_of, members_view, table_view, view}
pub use Rattle.toml.specs.declared.value.Value.{Value}
pub use Rattle.gts_alphabet.specs.declared.characters.TheConstants.{BLANK}
pub use Rattle.gts_directory.specs.Cited.{Directory, Rows, address_of, bit, checked, circuit_of, circuit_of_row, directory_of, directory_of_rows, first_fault, first_of, first_row, localhost, mask_of, rule_of_row, too_many, too_many_of, two_names, unknown_circuit, unless, unless_fault}
pub use Rattle.gts_directory.specs.declared.fault.DirFault.{DirFault}
pub use Rattle.gts_directory.specs.declared.fault.DirFault.TheVariants.{BadKey, BadLevel, BadLimit, BadPattern, ClosedCircuit, NotToml, TooLong, TwoNames, UnknownCircuit}
pub use Rattle.gts_directory.specs.declared.fault.Part.{Part}
pub use Rattle.gts_directory.specs.declared.rows.CircuitRow.{CircuitRow}
pub use Rattle.gts_directory.specs.declared.rows.LevelRow.{LevelRow}
pub use Rattle.gts_directory.specs.declared.rows.RuleRow.{RuleRow}
