use Rattle.gts_directory.proofs.Cited.{arith, common_steps}
use Rattle.gts_directory.proofs.CellLemmas.{IsTable-add}
use Rattle.gts_directory.proofs.table.RuleTable.add.Goals as goal

pub invariant_of-self-2 : goal.invariant_of-self-2
invariant_of-self-2 c = grind (arith, common_steps, IsTable-add)
