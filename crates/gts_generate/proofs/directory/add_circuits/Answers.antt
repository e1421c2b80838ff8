use Rattle.gts_generate.proofs.CentreLemmas.{circuit-added}
use Rattle.gts_generate.proofs.directory.add_circuits.Goals as goal
use Rattle.gts_generate.proofs.Cited.{common_steps, arith}

pub loop-j-preserved : goal.loop-j-preserved
loop-j-preserved c = grind (arith, common_steps, circuit-added)
