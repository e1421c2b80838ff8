-- What proofs of this crate cite of its definitions, of the standard library and of crates below, in one place.
pub use Rattle.std.proofs.Common.{Bool, Err, List, Ok, OnOk, Option, Result, Some, [], ap, append_assoc, arith, cond, drop, false, get_or, if◌then◌else◌, inl, inr, is_err, length, length-append, map, min, nat_le, nat_lt, refl, replicate, set, subst, suc, sym, take, true, zero, ℕ, ◌&&◌, ◌*◌, ◌++◌, ◌+◌, ◌-◌, ◌/◌, ◌<◌, ◌==◌, ◌^◌, ◌||◌, ◌∙◌, ◌∷◌, ◌≡◌, ◌≤◌, ◌⊎◌}
pub use Rattle.std.proofs.Math.Nat.{pow-le-pow_right}
pub use Rattle.std.proofs.Math.Seq.{take-append-add, take-append_seam}
pub use Rattle.std.proofs.lemmas.Bool.{and_from, and_parts, cases_lt, eqb-true, false≢true, le-leb, leb-true, lt-ltb}
pub use Rattle.std.proofs.lemmas.Grind.{common_steps, flat_map-append, pow_more}
pub use Rattle.std.proofs.lemmas.List.{append-nil, drop-drop, drop-take, get_or-set_same, length-drop, length-map, length-take-le, map-set, nil_from_length, take-append-drop, take-append-le, take_all, with_items_is}
pub use Rattle.std.proofs.lemmas.List.Elements.{filter-append}
pub use Rattle.std.proofs.lemmas.Result.{IfOk-at_ok, err_from_is_err_and}
pub use borrow.Author.Tests.{ltb-true}
pub use borrow.Rule.Slice.PartMut.{post_of, put_mid}
pub use Rattle.gts_calls.proofs.FedLemmas.{goes_of}
pub use Rattle.gts_connection.proofs.LawLemmas.{added-twice, compactions_between, compactions_go_on, connections_go_on, each_connection, early_is_none, entries_go_on, readable-all, readable-behind, reads, whole_is_read}
pub use Rattle.gts_connection.specs.Capture.{EndsInFeed, EndsInHead}
pub use Rattle.gts_event.proofs.LawLemmas.{after_all-append, draws_index, nothing_left, one_less, ordered-all, owed_few-all, repeats_first, routed_once-all}
pub use Rattle.gts_replay.specs.Cited.{AfterSettling, AllByRecursion, AreStepsOf, AreStill, Bad, BadByte, BeginsWithHead, BreaksAtCompaction, BreaksAtRestart, BreaksIdle, BreaksOff, BreaksTogether, CaptureFault, CaptureKind, Choice, Circuit, CircuitState, Compact, CompactHead, Connections, Decode, Decoding, Directory, Disk, DiskFault, DoesStep, Done, Doubt, Drain, DrainHead, Draw, Draws, End, EndHead, Ends, EndsBehind, EndsEarlyOf, EndsThere, Entry, Event, Feed, FeedGoesOn, FeedHead, Feeds, Goes, GoesOn, HasDone, Head, Held, Idle, IsAnswered, IsBadAt, IsCause, IsCompactCause, IsCompacting, IsCut, IsDone, IsFed, IsFrontIn, IsHeadFront, IsHeadIn, IsHeadOf, IsInFeed, IsLasting, IsPartIn, IsPartialHead, IsReadTo, IsReopening, IsSameCapture, IsSettled, IsSettling, IsStart, IsStepOf, IsStop, IsTaken, IsWholeOf, Journaled, LONGEST_CAPTURE, LacksMemory, LosesSource, MayHaveSettled, More, NoMemory, Nothing, Nothing_waits, OpenFault, Outcome, Passed, ReadingIn, ReadingOf, ReadsHead, Remains, Reopen, ReopenHead, Repeats, ReplayEnd, Resend, Restart, RestartHead, Restarted, RoutedOnce, Say, SayFault, SettlesBehind, SettlesFirst, SettlesTo, SourceFault, Spent, Standing, Stands, StandsFor, State, Step, StepFault, Stop, Stopped, StoppedBefore, StopsAtCompaction, StopsAtFault, StopsAtRestart, StopsBehind, StopsInFeed, StopsInHead, SwitchFault, Take, TakeHead, Taken, Takes, TakesNoMore, Traffic, Unsaid, Whole, after, after_all, after_step, after_take, all_done, all_unsaid, answer_of, at_start, byte_where, bytes_announced, bytes_of_step, choice, compacted_at, compactions, compactions_at, compactions_from, connections_after, count_at, digit_at, done_by, draws, end_of, entries, entries_at, entries_from, entries_of_step, events_added, first_after, flat_map, fresh, has_journal, head_text, held_in, idle, is_digit_below, is_letter, left_to_give, line_of, most_owed, next, no_bytes, on_circuit, origin_after, origin_at, origin_behind, outcome, outcome_at, readable, readable_from, restart_of, settled, settled_end, state_at, step_text, takes_of_drain, with_bytes, with_drawn}
unfoldable pub use Rattle.gts_replay.specs.Cited.{behind_letter, circuit_at, dec, end_at, head_at, size_at}
pub use Rattle.gts_replay.specs.Ending.{HasTaken, Went}
pub use Rattle.gts_replay.specs.HeadReading.{◌>>=◌}
unfoldable pub use Rattle.gts_replay.specs.HeadReading.{digits_at}
pub use Rattle.gts_replay.specs.Heads.{head_of}
