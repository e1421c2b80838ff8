mod Cited
mod WaitingLemmas
mod OrderLemmas
pub mod LawLemmas
