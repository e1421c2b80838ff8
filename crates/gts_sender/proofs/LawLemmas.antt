-- What the law of src/laws.rt says, for the proofs of crates above: each is an answer of one of its clauses.
pub use Rattle.gts_sender.proofs.DrawLemmas.{whole, broken, none, given, failed}
