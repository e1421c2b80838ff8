use Rattle.gts_lock.proofs.Cited.{arith, common_steps}
use Rattle.gts_lock.proofs.PartingLemmas.{splits}
use Rattle.gts_lock.proofs.ViewsLemmas.{resting_idle}
use Rattle.gts_lock.proofs.hall.Hall.split.Goals as goal

pub split_seat-other-requires : goal.split_seat-other-requires
split_seat-other-requires g c = grind (arith, common_steps, splits, resting_idle)
