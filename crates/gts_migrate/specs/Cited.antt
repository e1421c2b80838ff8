-- What files of this crate and of those above cite of it, in one place, and what it cites of those below.
pub mod Below
pub use Rattle.gts_migrate.specs.LettingGo.{each_let_go, emptied, first_waiting, goes_on, left_behind, let_go, opened_on, waiting_closed, waits_closed, waits_on_closed}
pub use Rattle.gts_migrate.specs.Dropping.{CanDrop, IsStart, SaysAll, drop_receipts, dropped_text, have_bodies, heading_among, receipt_among, receipts_from, receipts_on, receipts_under, sayings, waiting_at}
pub use Rattle.gts_migrate.specs.Bringing.{EachGoesOn, TellsWaiting, circuits_under, under_row}
pub use Rattle.gts_migrate.specs.Answers.{AnswersOpening, AnswersWaiting, CountsFaults, CountsSays, GivesRoomFor, IsDiskFaultOf, IsPreparedFaultOf, IsRoomAnswer, IsRoomFaultOf, IsSaidFaultOf, IsSayFaultOf, IsWriteFaultOf, LeavesFiles, SaysFor, WasOpened, write_fault}
pub use Rattle.gts_migrate.specs.Migrating.{CanMigrate, FitsFor, HasFewDue, IsBrought, IsMigrated, IsToSay, OpensEither, OpensWith, OpensWithAt, SaysDropped, StaysEither, StaysWith}
pub use Rattle.gts_migrate.specs.Trial.{IsTried, OpensTo, refusal}
pub use Rattle.gts_migrate.specs.declared.fault.MigrateFault.{MigrateFault}
pub use Rattle.gts_migrate.specs.declared.fault.MigrateFault.TheVariants.{DiskFault, Full, NoMemory, Open, SayFault, Waits}
pub use Rattle.gts_migrate.specs.declared.waiting.Waiting.{Waiting}
pub use Rattle.gts_migrate.specs.declared.waiting.Waiting.TheVariants.{Dropped, Refused}
unfoldable pub use Below.*
