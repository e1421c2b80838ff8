-- What proofs of this crate cite of its definitions, of the standard library and of crates below, in one place.
pub use Rattle.std.proofs.Common.{Bool, List, None, Option, Some, [], ap, arith, cond, eq-eqb, eqb, false, get_or, inl, inr, length, length-append, length-set, map, nat_le, ne_eqb, refl, rules, set, subst, suc, sym, true, true≢false, zero, ℕ, ⊎_elim, ◌%◌, ◌++◌, ◌+◌, ◌-◌, ◌<◌, ◌==◌, ◌||◌, ◌∙◌, ◌∷◌, ◌≡◌, ◌≢◌, ◌≤◌, ◌⊎◌}
pub use Rattle.std.proofs.lemmas.Bool.Decides.{nat_tests}
pub use Rattle.std.proofs.lemmas.Grind.{common_steps}
pub use Rattle.std.proofs.lemmas.List.Elements.{filter-append}
pub use Rattle.std.proofs.lemmas.Option.{same_Some}
pub use Rattle.atomic_table.proofs.Lists.{at_last, at_longer, at_map, at_set, set_again, set_else}
pub use lib.ListN.{get_elem?}
pub use lib.Seq.{set-get_or}
pub use mathlib.Core.List.{append-nil, append_assoc, map-append}
pub use mathlib.Core.Logic.{dite}
pub use mathlib.Core.Option.{none, some, some-injective, some-ne-none}
pub use native.Mathlib.Decide.{ℕ_discrete}
pub use prog.Atomic.{either}
pub use Rattle.gts_lock.specs.Cited.{Accounts, Allows, Common, Compares, Draws, EndsWith, Final, Fits, FitsJoined, FitsStage, HasTicket, Holding, Idle, InTurn, IsAmong, IsNamed, IsOf, IsRestingAt, IsRun, JoinedNamesDiffer, Joins, Live, Looks, MOST_TURNS, Me, NamesAreJoined, NamesDiffer, NoneHolds, OneHolds, Place, Raises, RaisesSome, Seen, SomeHolds, Spent, Splits, Stage, StartsWith, State, TableId, TicketsDiffer, View, Waiting, copy, ended, entries, entries_under, filter, gives, hall_of, holding, joined_as, joining, keeps, longer, marked, newcomer, opening, part, parting, rest, shorter, sits, spent, staged, step, stepped, takes, tickets, tickets_of}
pub use Rattle.gts_lock.specs.Passes.{AllJoined, Known}
pub use Rattle.gts_lock.specs.Tested.{IsSamePass}
