-- What files of this crate and of those above cite of it, in one place, and what it cites of those below.
pub mod Below
pub use Rattle.gts_replay.specs.Going.{BreaksAtRestart, Decode, IsFed, IsStart, Remains, StandsFor, compacted_at, origin_behind, state_at}
pub use Rattle.gts_replay.specs.Replay.{BreaksAtCompaction, Ends, HasDone, HasReplayCause, IsCut, IsDone, IsLasting, IsUnbegun, IsUnfailed, LacksMemory, LosesSource, StoppedBefore, StopsAtCompaction, StopsAtFault, StopsAtRestart, compactions_at, entries_at, origin_at}
pub use Rattle.gts_replay.specs.Ending.{AreStill, DoesStep, EndsBehind, EndsSettled, Feeds, HasRunCause, HasSettleCause, IsStepOf, SettlesBehind, SettlesTo, StopsBehind, Takes, TakesNoMore, end_of, first_after, origin_after, settled_end}
pub use Rattle.gts_replay.specs.Counts.{CountsRun, CountsSettling, CountsStep, EndsRun, EndsUnsettled}
pub use Rattle.gts_replay.specs.Reading.{IsSettled, MayHaveSettled, ReadsHead, SettlesFirst}
pub use Rattle.gts_replay.specs.Heads.{bytes_announced, has_journal, line_of}
pub use Rattle.gts_replay.specs.HeadReading.{byte_where, digit_at, is_digit_below, is_letter}
unfoldable pub use Rattle.gts_replay.specs.HeadReading.{behind_letter, circuit_at, digits_at, end_at, head_at, size_at}
pub use Rattle.gts_replay.specs.Held.{BadByte, BeginsWithHead, EndsInFeed, EndsInHead, HasSourceCause, Held, IsBadAt, IsSameCapture, IsStop, Passed, StopsInFeed, StopsInHead, at_start, readable_from}
pub use Rattle.gts_replay.specs.Progress.{EndsThere, FeedGoesOn, GoesOn, IsInFeed, IsReadTo, IsTaken, Passes}
pub use Rattle.gts_replay.specs.declared.capture_fault.CaptureFault.{CaptureFault}
pub use Rattle.gts_replay.specs.declared.capture_fault.CaptureFault.TheVariants.{Bad, SourceFault}
pub use Rattle.gts_replay.specs.declared.end.ReplayEnd.{ReplayEnd}
pub use Rattle.gts_replay.specs.declared.fault.StepFault.{StepFault}
pub use Rattle.gts_replay.specs.declared.head.Head.TheVariants.{End}
pub use Rattle.gts_replay.specs.declared.head_cursor.Stop.{Stop}
pub use Rattle.gts_replay.specs.declared.head_cursor.Stop.TheVariants.{More}
unfoldable pub use Below.*
