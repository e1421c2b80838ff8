use Rattle.gts_event.proofs.TurnedAwayLemmas.{turned-state, turned-said, nothing-given}
use Rattle.gts_event.proofs.laws.a_refusal_changes_nothing.Goals as goal

pub returns-clause-state : goal.returns-clause-state
returns-clause-state c = turned-state

pub returns-clause-said : goal.returns-clause-said
returns-clause-said c = turned-said

pub returns-clause-nothing : goal.returns-clause-nothing
returns-clause-nothing c = nothing-given
