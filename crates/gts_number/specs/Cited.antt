-- What files of this crate and of those above cite of it, in one place, and what it cites of those below.
pub use Rattle.gts_number.specs.Number.{IsCarriedByNoneIn, IsCount, IsLatestIn, number_in, numbers_in, range_in}
