-- What proofs of this crate cite of its definitions, of the standard library and of crates below, in one place.
pub use Rattle.std.proofs.Common.{Bool, Bor, Err, IfNone, IfSome, IsOk, IsSome, List, None, Ok, OnOk, Option, Result, Some, Vec, [], ap, arith, cond, drop, false, get_or, inl, inr, is_some, length, map, max, min, nat_eq, nat_le, nat_lt, option_copied, option_map, refl, rules, set, slice_get, slice_index_or, subst, suc, sym, take, true, true≢false, zero, ℕ, ◌%◌, ◌++◌, ◌+◌, ◌-◌, ◌<◌, ◌==◌, ◌^◌, ◌∙◌, ◌∷◌, ◌≡◌, ◌≢◌, ◌≤◌, ◌⊎◌}
pub use Rattle.std.proofs.Math.Nat.{mod-lt}
pub use Rattle.std.proofs.Math.Seq.{get_or-append_seam}
pub use Rattle.std.proofs.lemmas.Bool.{cases_eq, cases_lt, eq-eqb, eqb-true, le-leb, leb-false, leb-true, ltb-false, ltb-true, ne_eqb}
pub use Rattle.std.proofs.lemmas.Grind.{common_steps}
pub use Rattle.std.proofs.lemmas.List.{drop-map, get_or-drop, get_or-map, get_or-set_other, get_or-set_same, get_or_append_left, get_or_default, length-append, length-drop, length-map, length-set, map-append, map-set, reverse-append}
pub use Rattle.std.proofs.lemmas.List.Folds.{find-append}
pub use Rattle.std.proofs.lemmas.List.Sums.{get_or-le-sum_by, sum_by-append, sum_by-cons, sum_by-set}
pub use Rattle.std.proofs.lemmas.Option.{slice_get-map}
pub use Rattle.gts_frame.proofs.LawLemmas.{same_from_pointwise}
pub use Rattle.gts_store.specs.Cited.{AllByRecursion, AllMarked, AllUsed, AreLinked, Buffer, Bulletin, Bulletins, Changes, ChangesAt, ChangesCircuit, ChangesFree, Circuit, Drawn, FallsOut, Global, HasDrawn, HasLinks, HeadingFields, IsCarriedByNoneIn, IsCount, IsLatestIn, IsLink, IsMarked, IsSound, KeepsUses, KeptDraw, SameBulletins, Shelf, Stored, buffer, bulletin_at, bytes_aside, carries, circuit_at, count_by, drawn_of, earlier_in, enumerate_from, falls_out, fields_of, filter_map, first_kept, fold, free_uses, get, greatest_index, has_heading, has_heading_in, heading_text, indices_of, is_same_heading, keep_last, kept_places, last_index, lookup, mark_in, mark_of, mark_on, no_draws, number_at, number_in, numbers_in, option_copied_mut, option_or, pair_of, pairs_of, parts_of, position_at, position_in, range_in, range_with_len, shelf_of, spare, stored_at, stored_of, sum_by, undrawn, uses_in, uses_of, with_draw, with_draws, with_item, with_use, with_uses, without_use, zip2}
