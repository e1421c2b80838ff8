use Rattle.gts_connection.proofs.StreamLemmas.{connection-added, added-twice, nothing_after_loss}
use Rattle.gts_connection.proofs.laws.more_bytes_only_add_events.Goals as goal

pub returns-clause-added : goal.returns-clause-added
returns-clause-added c = connection-added

pub returns-clause-twice : goal.returns-clause-twice
returns-clause-twice c = added-twice

pub returns-clause-lost : goal.returns-clause-lost
returns-clause-lost c = nothing_after_loss
