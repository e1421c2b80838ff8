use Rattle.gts_engine.proofs.TakingLemmas.{due_exact}
use Rattle.gts_engine.proofs.taking.is_due.Goals as goal
use Rattle.gts_engine.proofs.Cited.{common_steps, arith}

pub returns : goal.returns
returns g c = grind (arith, common_steps, due_exact)
