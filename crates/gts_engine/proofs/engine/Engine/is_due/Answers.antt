use Rattle.gts_engine.proofs.engine.Engine.is_due.Goals as goal
use Rattle.gts_engine.proofs.Cited.{common_steps, arith}

pub returns-clause-due : goal.returns-clause-due
returns-clause-due g c = grind (arith, common_steps)
