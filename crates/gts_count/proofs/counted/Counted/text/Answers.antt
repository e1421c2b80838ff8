use Rattle.gts_count.proofs.CallLemmas.{shows}
use Rattle.gts_count.proofs.counted.Counted.text.Goals as goal
use Rattle.gts_count.proofs.Cited.{common_steps, arith}

pub returns : goal.returns
returns g c = grind (arith, common_steps, shows)
