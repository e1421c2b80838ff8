use Rattle.gts_calls.proofs.HistoryLemmas.{own_spent, frames_spent}
use Rattle.gts_calls.proofs.laws.a_desk_that_is_spent_adds_nothing.Goals as goal

pub returns-clause-own : goal.returns-clause-own
returns-clause-own c = own_spent

pub returns-clause-frames : goal.returns-clause-frames
returns-clause-frames c = frames_spent
