-- What proofs of this crate cite of its definitions, of the standard library and of crates below, in one place.
pub use Rattle.std.proofs.Common.{Bool, Err, List, None, Ok, Option, Result, Some, [], ap, arith, cond, drop, eq-eqb, false, inl, inr, length, length-append, length-drop, max, nat_le, nat_lt, refl, slice_get, subst, suc, sym, take, true, zero, ℕ, ⊎_elim, ◌&&◌, ◌++◌, ◌+◌, ◌<◌, ◌==◌, ◌||◌, ◌∙◌, ◌∷◌, ◌≡◌, ◌≢◌, ◌≤◌, ◌⊎◌}
pub use Rattle.std.proofs.lemmas.Bool.{and_from, and_parts, ne_eqb, or_parts}
pub use Rattle.std.proofs.lemmas.Bool.Decides.{nat_tests}
pub use Rattle.std.proofs.lemmas.Grind.{common_steps}
pub use Rattle.std.proofs.lemmas.List.{append-nil, append_assoc, append_cancel_left, append_cancel_right, drop_at, length-map, length-take-le, map-append, take-take, take_all, take_at}
pub use Rattle.std.proofs.lemmas.List.Elements.{filter-append}
pub use Rattle.std.proofs.lemmas.Option.{slice_get_past}
pub use Rattle.gts_traits.specs.Cited.{Agree, Answer, AsSeen, Behind, Broken, Call, Cuts, Did, Doing, EachSince, EachTouchesNone, Files, GoesOn, InCall, InSay, IsFront, IsImage, IsImageDuring, IsPossible, IsSynced, IsTorn, MayBreakTo, MayLeave, MayLeaveAlong, OnlyAdds, OnlyCuts, OnlyTears, Outside, SaidSince, Says, SaysFront, SaysOnly, Syncs, Tells, TouchesNone, Tries, Writes, WritesNothing, on, overwritten, said_by, seen, stable, to_say, touched, touches}
pub use Rattle.gts_traits.specs.Disk.{touched_by}
pub use Rattle.gts_traits.specs.Station.{Breaks, channel_bytes}
pub use Rattle.gts_traits.specs.Worked.{agrees, agrees_below, same_byte}
