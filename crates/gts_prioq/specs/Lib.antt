pub mod Waiting
pub mod Queue
pub mod Order
pub mod Worked
pub mod Cited
