use Rattle.gts_calls.proofs.feeding.feed.Goals as goal
use Rattle.gts_calls.proofs.Cited.{common_steps, arith}

pub returns-clause-goes : goal.returns-clause-goes
returns-clause-goes g c = grind (arith, common_steps)
