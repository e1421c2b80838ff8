-- What files of this crate and of those above cite of it, in one place, and what it cites of those below.
pub mod Below
pub use Rattle.gts_receiver.specs.Receiver.{AddsFault, AreOver, AreShort, Arrives, EndsAs, Feeds, Gives, HasPassed, HasReadCause, HasTold, HavePassed, IsOver, IsShort, LosesAt, Passes, Reads, Received, Receives, Receiving, Tells, WentThroughAll, behind, behind_end, end_of_all, events_over, fault_entries, given_before}
pub use Rattle.gts_receiver.specs.Service.{AreMost, Hears, TriesOn, goes_on, is_try, is_wanting, settled, settled_own}
pub use Rattle.gts_receiver.specs.declared.end.ReceiveEnd.{ReceiveEnd}
pub use Rattle.gts_receiver.specs.declared.end.ReceiveEnd.TheVariants.{Ended, Fault, Long, LostSync, SourceFault}
pub use Rattle.gts_receiver.specs.declared.receiving.Next.{Next}
pub use Rattle.gts_receiver.specs.declared.receiving.Next.TheVariants.{Follows, Nothing}
pub use Rattle.gts_receiver.specs.declared.limits.TheConstants.{LONGEST_CONNECTION, MOST_TRIES}
pub use Below.*
