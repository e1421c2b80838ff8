use Rattle.gts_generate.proofs.DayLemmas.{drains-more, drained}
use Rattle.gts_generate.proofs.message.ending.Goals as goal
use Rattle.gts_generate.proofs.Cited.{common_steps, arith}

pub loop-c-preserved : goal.loop-c-preserved
loop-c-preserved c = grind (arith, common_steps, drains-more, drained)
