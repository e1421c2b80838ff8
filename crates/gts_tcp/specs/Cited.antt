-- What files of this crate and of those above cite of it, in one place, and what it cites of those below.
pub mod Below
pub use Rattle.gts_tcp.specs.Lines.{faults_in, is_open_in, place_in, unopened}
pub use Below.*
