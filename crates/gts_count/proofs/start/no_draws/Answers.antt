use Rattle.gts_count.proofs.StartLemmas.{row_more, ring_more, few_kept}
use Rattle.gts_count.proofs.start.no_draws.Goals as goal
use Rattle.gts_count.proofs.Cited.{common_steps, arith}

pub loop-c-preserved : goal.loop-c-preserved
loop-c-preserved c = grind (arith, common_steps, row_more, ring_more, few_kept)
