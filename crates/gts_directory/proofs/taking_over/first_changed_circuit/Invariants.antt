use Rattle.gts_directory.specs.Staying.{row_keeps_place}
use Rattle.gts_directory.proofs.TakingOverLemmas.{AllStayBelow}
use Rattle.gts_directory.proofs.taking_over.first_changed_circuit.Given as goal

abbrev pub invariant-loop-row : goal.invariant-loop-row
invariant-loop-row l = AllStayBelow row_keeps_place l.old l.new l.row
