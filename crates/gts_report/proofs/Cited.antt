-- What proofs of this crate cite of its definitions, of the standard library and of crates below, in one place.
pub use Rattle.std.proofs.Common.{Bool, Err, IfOk, List, Ok, OnOk, Result, [], ap, append_assoc, arith, codes, cond, drop, false, filter, flat_map, fold, get_or, length, map, min, nat_eq, nat_le, nat_lt, refl, subst, suc, sym, take, true, zero, ℕ, ◌%◌, ◌&&◌, ◌++◌, ◌+◌, ◌-◌, ◌<◌, ◌==◌, ◌^◌, ◌||◌, ◌↔◌, ◌∙◌, ◌∷◌, ◌≡◌, ◌≤◌}
pub use Rattle.std.proofs.Math.Path.{fun_ext}
pub use Rattle.std.proofs.Math.Seq.{drop-cons}
pub use Rattle.std.proofs.lemmas.Bool.{and_from, and_parts, eq-eqb, eqb-true, le-leb, le-ltb, leb-false, leb-true, lt-ltb, ltb-false, ltb-true, or_left, true≢false}
pub use Rattle.std.proofs.lemmas.Cmp.{nat_list_cmp_total, nat_list_eq_equiv}
pub use Rattle.std.proofs.lemmas.Grind.{flat_map-append}
pub use Rattle.std.proofs.lemmas.List.{append-nil, drop_all, get_or-map, length-map, map-append, map-id, take_more}
pub use Rattle.std.proofs.lemmas.List.Folds.{list_any-append}
pub use Rattle.std.proofs.lemmas.List.FromFn.{filter_of_map_range_with_len_more, map-range_with_len_more}
pub use Rattle.std.proofs.lemmas.List.Sums.{fold-append}
pub use Rattle.std.proofs.lemmas.Map.Iter.{rest_all, rest_more}
pub use Rattle.std.proofs.lemmas.Map.Lookups.{exact_bytes}
pub use Rattle.std.proofs.lemmas.Nat.Bits.{bit_at-lt, bit_at_above}
pub use Rattle.std.proofs.lemmas.Option.{get_or_from_slice_get, slice_get_within}
unfoldable pub use Rattle.std.specs.List.Sorted.{IsStrictlySortedBy}
pub use Rattle.gts_core.proofs.LawLemmas.{or_none}
pub use Rattle.gts_event.proofs.LawLemmas.{sound-parts}
pub use Rattle.gts_report.specs.Changes.{circuit_lines}
pub use Rattle.gts_report.specs.Cited.{All, AllByRecursion, AreRulesOf, Bulletin, Circuit, CircuitNeed, Complete, Directory, Equal, GROUPS, Greater, HasSeen, Heading, HeadingFields, IsComplete, LETTERS, Less, Need, Noted, NotesToo, Ordering, PLACES, Partial, Rule, RuleRow, State, agree, all_circuit_lines, behind, beside_rules, bit, bit_at, both_rule_lines, bulletin_of, bytes_below, changes, circuit_line, circuit_need_of, circuit_needs, circuit_of, circuit_of_row, circuits_in, deref, duplicates_line, entry_of, fields_of, files_open_any, goes_on, groups_of, has_rule, has_text, heading_text, insert_entry, is_needed, is_noted, is_recent, is_whole, known, last_of, list_all, list_any, mask_of, match_ordering, name_text, names_text, nat_cmp, need, need_of, need_of_circuit, ordering_reverse, pointwise, range_with_len, recent_among, refusal, refused_line, row_of, rule_change, rule_lines, rule_of_row, same_rule, seen, segment_at, segment_in, set_line, set_of, sets_of, slice_cmp, stands_in, stays_lines, texts_of, unused, values, with_set, word_line}
unfoldable pub use Rattle.gts_report.specs.Cited.{is_set, passing}
