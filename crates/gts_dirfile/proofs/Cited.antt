-- What proofs of this crate cite of its definitions, of the standard library and of crates below, in one place.
pub use Rattle.std.proofs.Common.{Bool, Bor, Err, List, None, Ok, Option, Some, [], ap, append-nil, append_assoc, arith, bit_or, cond, drop, false, get_or, inl, inr, is_some, length, lit≤, map, nat_eq, nat_lt, not, option_map, refl, string_bytes, subst, suc, sym, take, true, zero, ℕ, ◌&&◌, ◌++◌, ◌+◌, ◌<◌, ◌==◌, ◌^◌, ◌||◌, ◌↔◌, ◌∙◌, ◌∷◌, ◌≡◌, ◌≢◌, ◌≤◌}
pub use Rattle.std.proofs.NetLemmas.Ipv4.{read_ipv4_complete, read_ipv4_sound}
pub use Rattle.std.proofs.lemmas.Bool.{cases_Bool, cases_eq, eq-eqb, le-ltb, ltb-true, ne_eqb}
pub use Rattle.std.proofs.lemmas.List.{drop_all, drop_more, length-map, map-append, map_more, take_all, take_more}
pub use Rattle.std.proofs.lemmas.List.Elements.{filter_map-append}
pub use Rattle.std.proofs.lemmas.List.Folds.{list_any-append}
pub use Rattle.std.proofs.lemmas.Map.Iter.{rest_more}
pub use Rattle.std.proofs.lemmas.Nat.Bits.{bit_at-lt, bit_at-pow_other, bit_at-pow_same, bit_at_or}
pub use Rattle.std.proofs.lemmas.Option.{none-some}
pub use Rattle.std.proofs.lemmas.Str.{IsUtf8-from_is_utf8, is_utf8-from_IsUtf8}
pub use Rattle.std.specs.Net.Reader.{read_ipv4}
pub use Rattle.sha2.specs.Sha256.{sha256}
pub use Rattle.toml.proofs.Views.{Entry, table_get}
pub use Rattle.gts_dirfile.specs.Cited.{AreRulesOf, CircuitRow, Data, DirFault, Directory, Ipv4Addr, IsDotted, IsIpv4Text, IsUtf8, LONGEST_DIRECTORY, NotToml, Part, Read, Rows, RuleRow, TwoNames, UnknownCircuit, Value, address_of, address_of_text, are_names, as_table, bad_key, bit, bit_at, checked, circuit_of_row, circuit_row, deref_pair, directory_of_bytes, directory_of_rows, directory_of_text, filter_map, first_fault, first_row, has_only, ipv4_octets, is_utf8, items_of, level_row, list_all, list_any, members_view, number_of, option_or, pointwise, rule_of_row, rule_row, rule_text, rule_view, too_many, two_names, unknown_circuit, unknown_name, unless, unless_fault, values_of, view, whole_value, with_circuits, with_levels}
pub use Rattle.gts_dirfile.specs.Reading.{with_rules}
