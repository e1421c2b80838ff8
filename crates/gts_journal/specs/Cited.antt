-- What files of this crate and of those above cite of it, in one place, and what it cites of those below.
pub mod Below
pub use Rattle.gts_journal.specs.Hand.{InHand, IsCurrent}
pub use Rattle.gts_journal.specs.Standing.{EndsAt, Gives, HasAppended, HasGoneOn, IsClosedAt, LeavesBoth, LeavesEither, OnlySyncs, StandsOn, beyond, entry_at, file_of, file_with, front_of, next_entry, next_seal, passing, sealed_next, selecting, staged}
pub use Rattle.gts_journal.specs.Opening.{IsExisting, IsFaultOf, IsFoundIn, StartsUnder, fault_sought, first_fault, header_fault, is_at_checkpoint, is_begun, is_checkpoint, selected_bytes, sought, version_of}
pub use Rattle.gts_journal.specs.Lending.{GoesOn}
pub use Rattle.gts_journal.specs.Law.{HoldsState, IsNext, IsOther, IsSameAgain, KeepsState, OpensAsBefore, OpensTo, OpensToEither, ReadsOn, RefusesAt, StandsFor, StandsForOther, first_records}
pub use Rattle.gts_journal.specs.Batch.{AddsAllOrNone, AreNext, Gathered, Gathers, GathersMore, HasAppendedBlock, HasBlock, IsBlock, LeavesAllOrNone, OpensToOneOf, ReachesWithin, beyond_block, no_records, opened_part}
pub use Rattle.gts_journal.specs.declared.TheConstants.{LONGEST}
pub use Rattle.gts_journal.specs.declared.batch.TheConstants.{STEP}
unfoldable pub use Below.*
