-- What this crate says in words of what lies below it, in one place.
pub use Rattle.std.specs.Char.{is_ascii_digit}
pub use Rattle.std.specs.Int.{is_in_range}
pub use Rattle.std.specs.List.{AllByRecursion, flat_map}
unfoldable pub use Rattle.gts_alphabet.specs.Cited.{dec}
pub use Rattle.gts_traits.specs.Cited.{HasCause, Rose}
pub use Rattle.gts_traits.specs.declared.source.Source.{Ghosts as SourceMeanings}
pub use Rattle.gts_frame.specs.Cited.{Decoding, fresh, held_in}
pub use Rattle.gts_directory.specs.Cited.{Circuit, Directory}
pub use Rattle.gts_event.specs.Cited.{Choice, CircuitState, Draws, EachOwedFew, EachRoutedOnce, IsOrdered, Nothing_waits, Repeats, RoutedOnce, State, after, after_all, after_take, all_done, all_unsaid, choice, draws, idle, keeps_one, left_to_give, most_owed, next, on_circuit, outcome, takes_of_drain, with_drawn, with_repeated}
pub use Rattle.gts_event.specs.declared.event.Entry.{Entry}
pub use Rattle.gts_event.specs.declared.event.Entry.TheVariants.{Done, Doubt, Idle, Restarted, Unsaid}
pub use Rattle.gts_event.specs.declared.event.Event.{Event}
pub use Rattle.gts_event.specs.declared.event.Event.TheVariants.{Taken}
pub use Rattle.gts_event.specs.declared.fault.Device.TheVariants.{Disk, Say}
pub use Rattle.gts_event.specs.declared.fault.SwitchFault.{SwitchFault}
pub use Rattle.gts_event.specs.declared.fault.SwitchFault.TheVariants.{DiskFault, Full, NoMemory, SayFault, Spent, Stopped}
pub use Rattle.gts_event.specs.declared.outcome.Outcome.{Outcome}
pub use Rattle.gts_event.specs.declared.outcome.Outcome.TheVariants.{Draw, Nothing, Resend}
pub use Rattle.gts_record.specs.declared.fault.OpenFault.{OpenFault}
pub use Rattle.gts_connection.specs.Cited.{AreStepsOf, Compact, CompactHead, Connections, Drain, DrainHead, EndHead, EndsEarlyOf, Feed, FeedHead, Head, IsFrontIn, IsHeadFront, IsHeadIn, IsHeadOf, IsPartIn, IsPartialHead, IsWholeOf, ReadingIn, ReadingOf, Reopen, ReopenHead, Restart, RestartHead, Step, Take, TakeHead, Whole, after_step, bytes_of_step, compactions, compactions_from, connections_after, count_at, entries, entries_from, entries_of_step, events_added, head_of, head_text, no_bytes, step_text, with_bytes}
unfoldable pub use Rattle.gts_connection.specs.Cited.{readable}
pub use Rattle.gts_connection.specs.declared.kind.CaptureKind.{CaptureKind}
pub use Rattle.gts_connection.specs.declared.kind.CaptureKind.TheVariants.{Journaled, Traffic}
pub use Rattle.gts_connection.specs.declared.limits.TheConstants.{LONGEST_CAPTURE}
pub use Rattle.gts_opening.specs.Cited.{HasDoubt, HasUnsaid, done_by}
pub use Rattle.gts_calls.specs.Cited.{AfterSettling, BreaksIdle, BreaksOff, BreaksTogether, CountsCall, Goes, IsAnswered, IsCause, IsCompactCause, IsCompacting, IsReopenFault, IsReopening, IsSettling, Standing, Stands, answer_of, outcome_at, restart_of, settled}
pub use Rattle.gts_calls.specs.declared.switch.Switch.{Ghosts as SwitchMeanings}
