use Rattle.gts_directory.proofs.TakingOverLemmas.{found_gone, found_other, next_stays}
use Rattle.gts_directory.proofs.taking_over.first_changed_circuit.Goals as goal
use Rattle.gts_directory.proofs.taking_over.first_changed_circuit.Goals.{then-row-new-via-then-row-new, then-row-new-via-else-row-new+then-not-keeps_place}
use Rattle.gts_directory.proofs.Cited.{common_steps, arith}

pub returns-then-row-new : goal.returns-then-row-new
returns-then-row-new c = grind (arith, common_steps, found_gone, found_other)

pub loop-row-preserved : goal.loop-row-preserved
loop-row-preserved c = grind (arith, common_steps, next_stays)
