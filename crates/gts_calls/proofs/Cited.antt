-- What proofs of this crate cite of its definitions, of the standard library and of crates below, in one place.
pub use Rattle.std.proofs.Common.{Bool, Err, IfNone, IfSome, IsErrAnd, IsSome, List, MatchResult, None, Ok, Option, Result, Some, [], ap, arith, cond, drop, false, inl, inr, length, length-append, length-drop, not, refl, slice_get, subst, suc, sym, take, true, zero, ℕ, ◌&&◌, ◌++◌, ◌+◌, ◌-◌, ◌<◌, ◌==◌, ◌∙◌, ◌∷◌, ◌≡◌, ◌≤◌, ◌⊎◌}
pub use Rattle.std.proofs.Math.Seq.{take-add}
pub use Rattle.std.proofs.lemmas.Grind.{common_steps}
pub use Rattle.std.proofs.lemmas.List.{append-nil, append_assoc, drop-append-le, drop-drop, drop-take, get_or-take, length-map, length-take-le, map-append, nil_from_length, take-append-le, take-take, take_all, take_at, take_more_set, with_items_is}
pub use Rattle.std.proofs.lemmas.List.Elements.{filter-append}
pub use Rattle.std.proofs.lemmas.List.Sums.{sum_by-cons, sum_by-take-le}
pub use Rattle.std.proofs.lemmas.Option.{slice_get-get_or}
pub use Rattle.std.proofs.lemmas.Result.{err_from_is_err_and}
pub use Rattle.gts_connection.proofs.LawLemmas.{added-signs, added-twice}
pub use Rattle.gts_frame.proofs.LawLemmas.{front-open, part-is, reads-open}
pub use Rattle.gts_opening.proofs.LawLemmas.{shorter_front}
pub use Rattle.gts_calls.specs.Cited.{AddsAll, AddsAny, AddsAtFault, AddsEntries, AddsFed, AfterCall, AfterHearing, AfterSettling, All, Alone, AtOnce, Behind, BreaksFed, BreaksIdle, BreaksLast, BreaksOff, BreaksSoon, BreaksTogether, Decoding, Directory, DiskFault, Done, Doubt, EndsAt, EndsOver, EndsStep, Entry, Event, Fault, FeedEnd, Frame, FrameField, Full, GathersOne, Goes, GoesFed, GoesOn, GoesOver, HasCallCause, HasMessage, Idle, IsAnswerCause, IsAnswered, IsCause, IsCutShort, IsHeard, IsInDoubt, IsNoLoss, IsOneMore, IsPartial, IsSettling, IsShortAt, IsSpent, IsStreamFront, KeepsOver, Kind, Laid, LeavesLast, LosesLast, MOST_TOGETHER, Makes, NoMemory, Outcome, PassesBetween, Placed, Reads, ReadsOn, Rose, SayFault, Seen, SettlesFed, Spent, Standing, Stands, StartsWith, State, Step, Stopped, SwitchFault, TurnsTogether, Unsaid, Wanting, after_all, after_entry, after_step, all_done, all_unsaid, answer_of, begun, end_heard, end_lost, entries, entries_under, events_added, events_of_signs, frame_of, frames, frames_in, frames_of, held_in, is_all, is_done, is_event, is_front, is_part, no_frame, outcome, outcome_at, own, own_frames, piece_text, settled, signs_of_step, sizes_of, slice_index_or, state_at, under}
pub use Rattle.gts_calls.specs.declared.fed.FeedEnd.TheVariants.{Lost}
