-- What the laws of src/laws.rt say, for the proofs of crates above: each is an answer of one of them.
pub use Rattle.gts_frame.proofs.LawLemmas.{front-computed, front-is}
pub use Rattle.gts_connection.proofs.StepsLemmas.{events-frame, connection-signs, added-signs}
pub use Rattle.gts_connection.proofs.StreamLemmas.{connection-is, connection-unique, front-not_lost, not_lost-front, connection-added, added-twice, nothing_after_loss}
pub use Rattle.gts_connection.proofs.CutLemmas.{cuts_same}
pub use Rattle.gts_connection.proofs.HeadLemmas.{shorter_front}
pub use Rattle.gts_connection.proofs.ReadingLemmas.{reads, reads_once}
pub use Rattle.gts_connection.proofs.LongestLemmas.{readable-all, readable-behind, length-readable, place-within, whole_is_read, early_is_none}
pub use Rattle.gts_connection.proofs.StepsGoLemmas.{entries_go_on, connections_go_on, each_connection, compactions_go_on, compactions_between}
pub use Rattle.gts_connection.proofs.HereLemmas.{entries_here}
pub use Rattle.gts_connection.proofs.StepsLemmas.{connection-signs, added-signs}
