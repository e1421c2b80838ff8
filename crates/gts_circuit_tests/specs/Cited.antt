-- What files of this crate and of those above cite of it, in one place, and what it cites of those below.
pub mod Below
pub use Rattle.gts_circuit_tests.specs.OwedDesk.{one_circuit, one_owed, seen_by, taken}
unfoldable pub use Below.*
