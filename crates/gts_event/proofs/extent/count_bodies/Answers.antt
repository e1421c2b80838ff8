use Rattle.gts_event.proofs.Cited.{arith, common_steps}
use Rattle.gts_event.proofs.ExtentLemmas.{flat_more}
use Rattle.gts_event.proofs.extent.count_bodies.Goals as goal

pub loop-bulletin-preserved : goal.loop-bulletin-preserved
loop-bulletin-preserved c = grind (arith, common_steps, flat_more)
