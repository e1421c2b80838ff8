-- What the laws of src/progress.rt say, for the proofs of crates above.
pub use Rattle.gts_replay.proofs.ProgressLemmas.{begins, one_step, at_end, at_bad, in_feed}
pub use Rattle.gts_replay.proofs.GoesOnLemmas.{head_goes_on, feed_goes_on, taken_head, taken_feed}
