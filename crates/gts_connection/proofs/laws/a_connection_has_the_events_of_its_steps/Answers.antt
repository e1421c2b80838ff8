use Rattle.gts_connection.proofs.StepsLemmas.{connection-signs, added-signs}
use Rattle.gts_connection.proofs.laws.a_connection_has_the_events_of_its_steps.Goals as goal

pub returns-clause-all : goal.returns-clause-all
returns-clause-all c = connection-signs

pub returns-clause-step : goal.returns-clause-step
returns-clause-step c = added-signs
