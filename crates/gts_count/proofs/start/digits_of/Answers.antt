use Rattle.gts_count.proofs.StartLemmas.{row_more}
use Rattle.gts_count.proofs.start.digits_of.Goals as goal
use Rattle.gts_count.proofs.Cited.{common_steps, arith}

pub loop-c-preserved : goal.loop-c-preserved
loop-c-preserved c = grind (arith, common_steps, row_more)
