mod Cited
pub mod HistoryLemmas
pub mod ViewsLemmas
pub mod StepsLemmas
pub mod PartingLemmas
pub mod ClosingLemmas
pub mod JoiningLemmas
pub mod PairsLemmas
