mod Cited
pub mod ExitLemmas
pub mod SayLemmas
pub mod FeedLemmas
pub mod ShipLemmas
pub mod FirstLemmas
pub mod HeaderLemmas
pub mod FedLemmas
mod MayBeginLemmas
pub mod AddLemmas
pub mod ReadLemmas
pub mod GatherLemmas
pub mod GoneLemmas
pub mod CompareLemmas
pub mod ScanLemmas
pub mod BeginLemmas
pub mod PutLemmas
pub mod TakeLemmas
pub mod WholeLemmas
mod OtherLemmas
pub mod FrontLemmas
mod FurtherLemmas
pub mod HistoryLemmas
mod ScannedLemmas
mod StationLemmas
mod PartLemmas
pub mod SinceLemmas
mod BehindLemmas
mod BetweenLemmas
