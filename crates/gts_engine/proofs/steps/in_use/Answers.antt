use Rattle.gts_engine.proofs.Cited.{arith, ltb-false, common_steps}
use Rattle.gts_engine.proofs.steps.in_use.Goals as goal

-- an engine that goes on is within the limit; one that stopped has gathered nothing
pub overflow_add-result : goal.overflow_add-result
overflow_add-result g c = grind (arith, common_steps, ltb-false)

pub returns : goal.returns
returns g c = omega (arith, c.behind_gate.ensures, c.used.ensures.value, c.used.ensures.closed)
