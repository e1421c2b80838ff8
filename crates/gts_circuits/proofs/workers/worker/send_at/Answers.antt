use Rattle.gts_circuits.proofs.WorkingLemmas.{sends-on}
use Rattle.gts_circuits.proofs.workers.worker.send_at.Goals as goal
use Rattle.gts_circuits.proofs.Cited.{common_steps, arith}

pub returns-clause-hall : goal.returns-clause-hall
returns-clause-hall g c = grind (arith, common_steps, sends-on)

pub returns-clause-name : goal.returns-clause-name
returns-clause-name g c = grind (arith, common_steps, sends-on)

pub returns-clause-keeps : goal.returns-clause-keeps
returns-clause-keeps g c = grind (arith, common_steps)
