mod Cited
pub mod AloneLemmas
pub mod AscendingLemmas
pub mod NamedLemmas
pub mod SoundLemmas
pub mod WriterLemmas
pub mod HeadLemmas
pub mod PieceLemmas
pub mod NeedLemmas
pub mod FrontLemmas
pub mod ReadLemmas
pub mod SealLemmas
pub mod CheckpointBytesLemmas
pub mod DecodeLemmas
pub mod LawLemmas
