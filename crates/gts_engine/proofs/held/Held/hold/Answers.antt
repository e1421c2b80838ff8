use Rattle.gts_engine.proofs.Cited.{arith, with_items_is, take_more_set, length-take-le, common_steps}
use Rattle.gts_engine.proofs.HeldLemmas.{pieces_hold, put_behind}
use Rattle.gts_engine.proofs.held.Held.hold.Goals as goal

pub returns : goal.returns
returns c = grind (arith, common_steps, length-take-le, put_behind, with_items_is, take_more_set, pieces_hold)
