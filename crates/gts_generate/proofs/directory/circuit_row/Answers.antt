use Rattle.gts_generate.proofs.Cited.{arith, common_steps}
use Rattle.gts_alphabet.specs.Digits.{dec}
use Rattle.gts_generate.proofs.directory.circuit_row.Goals as goal

pub returns : goal.returns
unfolding dec
returns c = grind (arith, common_steps)
