pub mod Window
pub mod Index
pub mod Worked
pub mod Cited
