-- What the laws of src/laws.rt say, for the proofs of crates above.
pub use Rattle.gts_circuits.proofs.TurningLemmas.{taken}
pub use Rattle.gts_circuits.proofs.FlatLemmas.{entries-append, under-append, all_of-append, all_of_one, flat-append, flat_one, entries_flat, under_flat, starts_flat}
