use Rattle.gts_directory.proofs.Cited.{arith, common_steps}
use Rattle.gts_directory.proofs.MaskLemmas.{bit_at-without}
use Rattle.gts_directory.proofs.circuit_set.CircuitSet.without.Goals as goal

pub returns : goal.returns
returns c k = grind (arith, common_steps, bit_at-without)
