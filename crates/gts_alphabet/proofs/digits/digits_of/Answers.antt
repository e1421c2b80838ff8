use Rattle.std.proofs.lemmas.Grind.{common_steps}
use Rattle.std.proofs.Common.{◌≡◌, ℕ, ◌+◌, ◌-◌, ◌%◌, ◌++◌, List, drop, arith, sym, ap, ◌∙◌}
use Rattle.std.proofs.lemmas.List.{length-set}
use Rattle.gts_alphabet.specs.Digits.{dec}
use Rattle.gts_alphabet.proofs.DigitsLemmas.{dec_written, dec-zero}
use Rattle.gts_alphabet.proofs.digits.digits_of.Goals as goal

pub loop-i-preserved : goal.loop-i-preserved
loop-i-preserved g c = grind (arith, common_steps, dec_written, length-set)

pub returns : goal.returns
returns g c = grind (arith, common_steps, dec-zero)
