use Rattle.gts_engine.proofs.Cited.{arith, common_steps}
use Rattle.gts_engine.proofs.TakingLemmas.{most_is}
use Rattle.gts_engine.proofs.steps.has_room_for_draw.Goals as goal

pub returns-then-parts-c-clause-few : goal.returns-then-parts-c-clause-few
returns-then-parts-c-clause-few g c = grind (arith, common_steps, most_is)

pub returns-clause-few : goal.returns-clause-few
returns-clause-few g c = grind (arith, common_steps, most_is)

pub returns-clause-draw : goal.returns-clause-draw
returns-clause-draw g c = grind (arith, common_steps, most_is)

pub returns-then-parts-c-clause-only : goal.returns-then-parts-c-clause-only
returns-then-parts-c-clause-only g c = grind (arith, common_steps, most_is)
