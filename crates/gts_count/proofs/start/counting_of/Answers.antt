use Rattle.gts_count.proofs.BeginningLemmas.{start_follows}
use Rattle.gts_count.proofs.start.counting_of.Goals as goal
use Rattle.gts_count.proofs.Cited.{common_steps, arith}

pub returns-clause-counts : goal.returns-clause-counts
returns-clause-counts c = grind (arith, common_steps, start_follows)
