use Rattle.gts_calls.proofs.Cited.{arith, with_items_is, take_more_set, length-take-le, common_steps}
use Rattle.gts_calls.proofs.GivenLemmas.{frames_more, put_behind}
use Rattle.gts_calls.proofs.given.Frames.add.Goals as goal

pub returns : goal.returns
returns c = grind (arith, common_steps, length-take-le, put_behind, with_items_is, take_more_set, frames_more)
