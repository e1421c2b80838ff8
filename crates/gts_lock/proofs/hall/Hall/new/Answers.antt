use Rattle.gts_lock.proofs.PartingLemmas.{opens}
use Rattle.gts_lock.proofs.hall.Hall.new.Goals as goal
use Rattle.gts_lock.proofs.Cited.{common_steps, arith}

pub new-requires : goal.new-requires
new-requires g c = grind (arith, common_steps, opens)
