-- What files of this crate and of those above cite of it, in one place, and what it cites of those below.
pub mod Below
pub use Rattle.gts_lock.specs.History.{EndsWith, StartsWith, entries, entries_under, longer, shorter}
pub use Rattle.gts_lock.specs.Passes.{Accounts, AllJoined, IsAmong, Known, NamesAreJoined, after_adding, after_join, after_seeing, after_split, first_pass, split_off}
pub use Rattle.gts_lock.specs.Views.{IsRestingAt, copy, ended, hall_of, holding, joining, marked, newcomer, part, parting, spent, staged}
pub use Rattle.gts_lock.specs.Steps.{Compares, Draws, Looks, Raises, RaisesSome, Takes}
pub use Rattle.gts_lock.specs.Rule.{Common, Fits, FitsJoined, FitsStage, InTurn, IsNamed, Live, NoneHolds, Place, SomeHolds, joined_as, sits, tickets, tickets_of}
pub use Rattle.gts_lock.specs.Parts.{HasTicket, JoinedNamesDiffer, NamesDiffer, OneHolds, TicketsDiffer}
pub use Rattle.gts_lock.specs.Counting.{IsOf}
pub use Rattle.gts_lock.specs.Tested.{IsRun}
pub use Rattle.gts_lock.specs.declared.limits.TheConstants.{MOST_TURNS}
pub use Rattle.gts_lock.specs.declared.view.Stage.{Stage}
pub use Rattle.gts_lock.specs.declared.view.Stage.TheVariants.{Holding, Idle, Spent, Waiting}
pub use Rattle.gts_lock.specs.declared.view.View.{View}
pub use Below.*
