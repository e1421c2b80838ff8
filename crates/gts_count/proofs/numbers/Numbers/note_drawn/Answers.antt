use Rattle.gts_count.proofs.Cited.{arith, get_or_default, eqb-true, eqb-false, common_steps}
use Rattle.gts_count.proofs.SoundLemmas.{kept_full, kept_room}
use Rattle.gts_count.proofs.numbers.Numbers.note_drawn.Goals as goal
use Rattle.gts_count.proofs.numbers.Numbers.note_drawn.Goals.{then-is_full, else-is_full}

pub returns-clause-drawn : goal.returns-clause-drawn
returns-clause-drawn c = grind (arith, common_steps, get_or_default, eqb-true, kept_full, eqb-false, kept_room)
