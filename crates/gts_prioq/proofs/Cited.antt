-- What proofs of this crate cite of its definitions, of the standard library and of crates below, in one place.
pub use Rattle.std.proofs.Common.{Bool, Bor, IfSome, IsSome, List, MatchOption, None, Option, Some, [], add-one, ap, arith, cond, drop, false, filter, find, flat_map, get_or, inl, inr, length, map, nat_eq, nat_lt, not, option_copied, refl, set, subst, suc, sym, take, true, zero, ℕ, ◌&&◌, ◌++◌, ◌+◌, ◌-◌, ◌<◌, ◌==◌, ◌||◌, ◌∙◌, ◌∷◌, ◌≡◌, ◌≢◌, ◌≤◌, ◌⊎◌}
pub use Rattle.std.proofs.Math.Seq.{map-set_same}
pub use Rattle.std.proofs.lemmas.Bool.{both_ways, cases_eq, eq-eqb, eqb-false, eqb-true, le-ltb, lt-ltb, ltb-false, ltb-true, true≢false}
pub use Rattle.std.proofs.lemmas.Grind.{common_steps}
pub use Rattle.std.proofs.lemmas.List.{append-nil, get_or-map, get_or-set_other, get_or-set_same, length-map, length-set, map-set}
pub use Rattle.std.proofs.lemmas.List.Elements.{filter-append}
pub use Rattle.std.proofs.lemmas.List.Sums.{sum_by-cons, sum_by-set}
pub use Rattle.std.proofs.lemmas.Result.{IfOk-weaker}
pub use Rattle.gts_prioq.specs.Cited.{AllAbove, AllBelow, AreWaiting, Ascends, Global, GoesNext, IsFirstFilled, NothingWaits, PutsAt, TakesNext, VecDeque, Waiting, at_level, count_of, goes_before, is_first_of, items_at, items_of, list_all, list_any, next_of, room_of, spare, sum_by, waiting_in, without}
