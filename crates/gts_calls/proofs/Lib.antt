mod Cited
pub mod GoingLemmas
pub mod HeardLemmas
pub mod FedLemmas
pub mod ReadingLemmas
pub mod SettlingLemmas
pub mod OverLemmas
pub mod HistoryLemmas
pub mod GivenLemmas
pub mod LawLemmas
