pub mod Groups
pub mod Segments
pub mod Worked
pub mod Cited
