mod Cited
pub mod GoingLemmas
pub mod FeedingLemmas
pub mod DrainLemmas
pub mod DecoderLemmas
pub mod StepLemmas
pub mod SureLemmas
pub mod RunLemmas
pub mod FollowLemmas
pub mod BreakingLemmas
pub mod EndLemmas
pub mod OriginLemmas
pub mod HeadFieldLemmas
pub mod HeadLemmas
pub mod HeldLemmas
pub mod ProgressLemmas
pub mod GoesOnLemmas
pub mod LawLemmas
