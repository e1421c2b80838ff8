mod Cited
pub mod TurnLemmas
pub mod DrawLemmas
pub mod WritingLemmas
pub mod LawLemmas
