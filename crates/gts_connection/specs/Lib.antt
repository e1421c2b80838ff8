pub mod Connection
pub mod Steps
pub mod Capture
pub mod Worked
pub mod Cited
