use Rattle.gts_checkpoint.proofs.Cited.{arith, list_all-map, common_steps}
use Rattle.gts_checkpoint.proofs.NamedLemmas.{all-not, all-end}
use Rattle.gts_checkpoint.proofs.SoundLemmas.{needed-not}
use Rattle.gts_checkpoint.proofs.sound.are_needed.Goals as goal

pub returns-then-not-is_among : goal.returns-then-not-is_among
returns-then-not-is_among c = grind (arith, common_steps, needed-not, list_all-map, all-not)

pub returns : goal.returns
returns c = grind (arith, common_steps, list_all-map, all-end)
