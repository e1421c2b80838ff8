use Rattle.gts_count.proofs.KeysLemmas.{ordered_up}
use Rattle.gts_count.proofs.LineLemmas.{text_is}
use Rattle.gts_count.proofs.text.table.Goals as goal
use Rattle.gts_count.proofs.Cited.{common_steps, arith}

pub returns : goal.returns
returns c = grind (arith, common_steps, text_is, ordered_up)
