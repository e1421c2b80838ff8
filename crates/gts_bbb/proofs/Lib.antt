mod GroupLemmas
pub mod LawLemmas
