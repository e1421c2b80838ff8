pub mod Alone
pub mod SealingWriter
pub mod Heads
pub mod Writing
pub mod Reading
pub mod Sound
pub mod CheckpointBytes
pub mod Cited
