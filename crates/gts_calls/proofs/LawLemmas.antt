-- What the laws of src/laws.rt say, for the proofs of crates above: each is an answer of one of them, or follows from such.
pub use Rattle.gts_calls.proofs.HistoryLemmas.{just, own_added, frames_added, frames_behind, frames_append, frames_one, own_spent, frames_spent, goes_on, goes_on_spent, goes_further, stays, turned, own_any, goes_any, halfway, under_all}
