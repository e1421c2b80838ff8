pub mod Station
pub mod Cited
