-- What proofs of this crate cite of its definitions, of the standard library and of crates below, in one place.
pub use Rattle.std.proofs.Common.{Bool, Err, IfOk, List, None, Ok, Option, Result, Some, [], ap, append_assoc, arith, cond, drop, false, filter, get_or, length, map, not, refl, suc, sym, take, true, zero, ℕ, ◌&&◌, ◌++◌, ◌+◌, ◌<◌, ◌==◌, ◌||◌, ◌∙◌, ◌∷◌, ◌≡◌, ◌≤◌}
pub use Rattle.std.proofs.lemmas.Bool.{cases_eq}
pub use Rattle.std.proofs.lemmas.Bool.Decides.{nat_tests}
pub use Rattle.std.proofs.lemmas.Grind.{common_steps}
pub use Rattle.std.proofs.lemmas.List.{append-nil, length-drop, length-map, length-take-le, map-append, map-id, take-map, take_all, take_more}
pub use Rattle.std.proofs.lemmas.List.Folds.{list_all-append, list_any-append}
pub use Rattle.std.proofs.lemmas.List.FromFn.{filter_of_map_range_with_len_more, map-range_with_len_more}
pub use Rattle.std.proofs.lemmas.Nat.Bits.{bit_at_above}
pub use Rattle.std.proofs.lemmas.Option.{get_or_from_slice_get, slice_get_within}
pub use Rattle.gts_inspect.specs.Cited.{AreRulesOf, CircuitRow, Directory, HeadingFields, Ipv4Addr, RuleRow, agrees, bit, bit_at, calls_itself, dec, fields_of, is_named, is_reached, mask_of, matches, named, places, circuit_of_row, circuits_in, in_order, input_twice, list_all, list_any, names, names_all, names_one, no_rule, of_circuit, of_rule, output_twice, own_peer, peer_twice, range_with_len, rule_covered, rule_of_row, rule_twice, told, where_holds}
