pub mod Sender
pub mod Cited
pub use Rattle.gts_calls.specs.Given.{takes}
