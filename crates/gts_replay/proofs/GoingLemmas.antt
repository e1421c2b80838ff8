-- Entries that a run adds, one after another: what is proved of a feed holds of all of them.
pub use Rattle.gts_calls.proofs.GoingLemmas.{mapped_ok, mapped_err, all_done-append, stands_settled, settled_all, within_all, stands_same, settles_all, settles_not, cause_at, one_done, answer_is, call_breaks, one_breaks, none_goes, then_breaks, then_goes, breaks_before, goes_same}
