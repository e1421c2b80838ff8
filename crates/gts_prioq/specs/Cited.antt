-- What files of this crate and of those above cite of it, in one place, and what it cites of those below.
pub mod Below
pub use Rattle.gts_prioq.specs.Waiting.{AllBelow, GoesNext, NothingWaits, TakesNext, Waiting, at_level, count_of, most_waiting, spare}
pub use Rattle.gts_prioq.specs.Queue.{IsFirstFilled, items_at, items_of, room_of, waiting_in}
pub use Rattle.gts_prioq.specs.Order.{AllAbove, AreWaiting, Ascends, PutsAt, goes_before, is_first_of, next_of, without}
pub use Below.*
