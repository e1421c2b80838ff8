use Rattle.gts_event.proofs.KnownLemmas.{knows, knows_message}
use Rattle.gts_event.proofs.laws.what_is_known_is_a_duplicate.Goals as goal

pub returns-clause-bulletin : goal.returns-clause-bulletin
returns-clause-bulletin c = knows

pub returns-clause-message : goal.returns-clause-message
returns-clause-message c = knows_message
