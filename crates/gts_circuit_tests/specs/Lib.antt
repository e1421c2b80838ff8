pub mod OwedDesk
pub mod Cited
