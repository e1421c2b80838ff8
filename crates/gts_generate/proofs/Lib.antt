mod Cited
pub mod DayLemmas
pub mod SaidLemmas
pub mod SummaryLemmas
pub mod CentreLemmas
pub mod LawLemmas
mod RunningLemmas
pub mod ByteLemmas
pub mod ReceiptLemmas
pub mod CountLemmas
pub mod FramesLemmas
pub mod EndLemmas
pub mod FedLemmas
pub mod DayCountLemmas
