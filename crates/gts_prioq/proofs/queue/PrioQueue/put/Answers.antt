use Rattle.gts_prioq.proofs.Cited.{arith, length-set, common_steps}
use Rattle.gts_prioq.proofs.WaitingLemmas.{at-set, at-here, at-set_other, count_of-set}
use Rattle.gts_prioq.proofs.queue.PrioQueue.put.Goals as goal

pub push_back_reserved-requires : goal.push_back_reserved-requires
push_back_reserved-requires c = grind (arith, common_steps, at-here)

pub returns-clause-put : goal.returns-clause-put
returns-clause-put c = grind (arith, common_steps, at-here, at-set, at-set_other)

pub returns-clause-spares : goal.returns-clause-spares
returns-clause-spares c = grind (arith, common_steps, at-set_other)

pub returns-clause-used : goal.returns-clause-used
returns-clause-used c = grind (arith, common_steps, at-here, at-set)

pub returns-clause-count : goal.returns-clause-count
returns-clause-count c = grind (arith, common_steps, count_of-set)

pub invariant_of-self : goal.invariant_of-self
invariant_of-self c = grind (arith, common_steps, count_of-set, length-set)
