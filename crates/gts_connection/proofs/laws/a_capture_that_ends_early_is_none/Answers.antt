use Rattle.gts_connection.proofs.LongestLemmas.{early_is_none}
use Rattle.gts_connection.proofs.laws.a_capture_that_ends_early_is_none.Goals as goal

pub returns : goal.returns
returns c = early_is_none
