pub mod Findings
pub mod Routing
pub mod Worked
pub mod Cited
