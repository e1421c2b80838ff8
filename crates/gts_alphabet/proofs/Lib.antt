pub mod DigitsLemmas
pub mod LawLemmas
