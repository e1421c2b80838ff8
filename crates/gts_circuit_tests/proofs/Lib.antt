pub mod OwedDeskLemmas
