pub mod Going
pub mod Replay
pub mod Ending
pub mod Counts
pub mod Reading
pub mod Heads
pub mod HeadReading
pub mod Held
pub mod Progress
pub mod Cited
pub use Rattle.gts_replay.specs.Going.{BreaksOff, BreaksTogether, BreaksIdle}
