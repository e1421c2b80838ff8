use Rattle.gts_prioq.proofs.OrderLemmas.{Ascends-put, Ascends-without, AllBelow-level}
use Rattle.gts_prioq.proofs.laws.what_waits_stays_in_order.Goals as goal

pub returns-clause-put : goal.returns-clause-put
returns-clause-put c = Ascends-put

pub returns-clause-taken : goal.returns-clause-taken
returns-clause-taken c = Ascends-without

pub returns-clause-above : goal.returns-clause-above
returns-clause-above c = AllBelow-level
