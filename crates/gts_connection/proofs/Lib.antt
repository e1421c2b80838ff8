mod Cited
pub mod ListLemmas
pub mod StreamLemmas
pub mod StepsLemmas
pub mod CutLemmas
pub mod ReadingLemmas
pub mod LongestLemmas
pub mod StepsGoLemmas
pub mod HereLemmas
pub mod LawLemmas
pub mod HeadLemmas
