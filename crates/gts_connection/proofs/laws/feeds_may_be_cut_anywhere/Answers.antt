use Rattle.gts_connection.proofs.CutLemmas.{cuts_same}
use Rattle.gts_connection.proofs.laws.feeds_may_be_cut_anywhere.Goals as goal

pub returns : goal.returns
returns c = cuts_same
