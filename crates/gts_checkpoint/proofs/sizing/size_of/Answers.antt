use Rattle.gts_checkpoint.proofs.Cited.{arith, common_steps}
use Rattle.gts_checkpoint.proofs.NeedLemmas.{text_long}
use Rattle.gts_checkpoint.proofs.sizing.size_of.Goals as goal

pub returns : goal.returns
returns c = grind (arith, common_steps, text_long)
