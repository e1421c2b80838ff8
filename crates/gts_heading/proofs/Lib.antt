mod Cited
mod FieldLemmas
mod HeadingLemmas
pub mod LawLemmas
mod SameLemmas
