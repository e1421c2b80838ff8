mod SplitLemmas
pub mod LawLemmas
