-- What files of this crate and of those above cite of it, in one place, and what it cites of those below.
pub mod Below
pub use Rattle.gts_connection.specs.Connection.{IsConnection, connection, event_at, events_added, events_in, events_of, is_lost, loss_at, loss_of}
pub use Rattle.gts_connection.specs.Steps.{events_of_signs}
pub use Rattle.gts_connection.specs.Capture.{AreSteps, AreStepsOf, Bad, Compact, CompactHead, Connections, Drain, DrainHead, EndHead, EndsEarly, EndsEarlyOf, EndsInFeed, EndsInHead, Feed, FeedHead, Head, IsEarly, IsFrontIn, IsHead, IsHeadFront, IsHeadIn, IsHeadOf, IsPartIn, IsPartialHead, IsWhole, IsWholeOf, Reading, ReadingIn, ReadingOf, Reopen, ReopenHead, Restart, RestartHead, Step, Take, TakeHead, Whole, after_step, bytes_of_step, compactions}
pub use Rattle.gts_connection.specs.Capture.{compactions_behind, compactions_from, connections_after, count_at, entries, entries_from, entries_of_step, head_of, head_text, join, joined, no_bytes, step_text, with_bytes}
unfoldable pub use Rattle.gts_connection.specs.Capture.{readable}
pub use Rattle.gts_connection.specs.declared.kind.CaptureKind.{CaptureKind}
pub use Rattle.gts_connection.specs.declared.kind.CaptureKind.TheVariants.{Journaled, Traffic}
pub use Rattle.gts_connection.specs.declared.limits.TheConstants.{LONGEST_CAPTURE}
unfoldable pub use Below.*
