use Rattle.gts_calls.proofs.HistoryLemmas.{halfway}
use Rattle.gts_calls.proofs.laws.a_turn_is_like_two.Goals as goal

pub returns : goal.returns
returns c = halfway
