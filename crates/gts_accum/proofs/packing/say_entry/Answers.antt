use Rattle.gts_accum.proofs.PackLemmas.{told_behind}
use Rattle.gts_accum.proofs.packing.say_entry.Goals as goal
use Rattle.gts_accum.proofs.Cited.{common_steps, arith}

pub returns-clause-told : goal.returns-clause-told
returns-clause-told g c = grind (arith, common_steps, told_behind)
