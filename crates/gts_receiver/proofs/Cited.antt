-- What proofs of this crate cite of its definitions, of the standard library and of crates below, in one place.
pub use Rattle.std.proofs.Common.{Bool, Err, IsSome, List, None, Ok, Option, Result, Some, [], ap, append_assoc, arith, drop, eq-eqb, false, inl, inr, length, length-append, length-drop, ne_eqb, not, refl, rules, subst, sym, take, take-append-drop, true, unwrap_or, ℕ, ◌++◌, ◌+◌, ◌-◌, ◌<◌, ◌==◌, ◌||◌, ◌∙◌, ◌∷◌, ◌≡◌, ◌≢◌, ◌≤◌, ◌⊎◌}
pub use Rattle.std.proofs.lemmas.Grind.{common_steps, flat_map-append}
pub use Rattle.std.proofs.lemmas.List.{append-nil, append_cancel_right, length-take-le, map-append, take_all}
pub use Rattle.std.proofs.lemmas.List.Elements.{filter-append}
pub use Rattle.std.proofs.lemmas.Result.{err_from_is_err_and}
pub use Rattle.gts_calls.proofs.LawLemmas.{goes_any, goes_further, goes_on_spent, halfway, just, own_added, own_any, own_spent, stays, turned}
pub use Rattle.gts_connection.proofs.LawLemmas.{connection-added, connection-signs}
pub use Rattle.gts_frame.proofs.LawLemmas.{front-open, open-front, reads-lost}
pub use Rattle.gts_receiver.specs.Cited.{AddsAny, AddsEntries, AddsFault, AddsJust, Answers, AreMost, AreOver, AreShort, Arrives, Begun, Decoding, Device, DiskFault, Done, Doubt, Ended, EndsAs, EndsOver, EndsWith, Entry, Event, Fault, Fed, FeedEnd, Feeds, Follows, FrameField, Full, GoesOn, HasParts, HasPassed, HasTold, HavePassed, Heard, Hears, Idle, IsOver, IsShort, IsSpent, IsStreamFront, IsWanting, Kind, LONGEST_CONNECTION, LeavesLast, Long, LosesAt, LosesLast, Lost, LostSync, MOST_TRIES, NoMemory, Nothing, Outcome, Part, Passes, PassesBetween, Reads, ReceiveEnd, Receives, Receiving, Rose, SayFault, SaysNoMore, Seen, SourceFault, Spent, State, Stopped, SwitchFault, Taken, Takes, TriesOn, Unsaid, WentThroughAll, all_done, all_unsaid, behind, behind_end, connection, end_of_all, events_added, events_of_signs, events_over, fault_entries, given_before, goes_on, held_in, is_try, is_wanting, outcome, own, settled, settled_own}
