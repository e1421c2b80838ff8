-- What files of this crate and of those above cite of it, in one place, and what it cites of those below.
pub mod Below
pub use Rattle.gts_bbb.specs.Bbb.{kind_of}
pub use Rattle.gts_bbb.specs.declared.bbb.Bbb.{Bbb}
pub use Rattle.gts_bbb.specs.declared.bbb.Bbb.TheVariants.{Amendment, Correction, Delayed, LastSegment, Segment}
pub use Below.*
