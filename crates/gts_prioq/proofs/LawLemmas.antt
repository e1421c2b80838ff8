-- What the laws of src/laws.rt say, for the proofs of crates above: each is an answer of one of them.
pub use Rattle.gts_prioq.proofs.OrderLemmas.{next_of-GoesNext, none_waits, AreWaiting-put, AreWaiting-taken, count_of-AreWaiting, Ascends-put, Ascends-without, AllBelow-level}
