use Rattle.gts_event.proofs.Cited.{arith, common_steps}
use Rattle.gts_event.proofs.ExtentLemmas.{flat_more}
use Rattle.gts_event.proofs.extent.count_places.Goals as goal

pub loop-circuit-preserved : goal.loop-circuit-preserved
loop-circuit-preserved c = grind (arith, common_steps, flat_more)
