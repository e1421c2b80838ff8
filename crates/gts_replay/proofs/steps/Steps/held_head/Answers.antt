use Rattle.gts_replay.proofs.Cited.{arith, length-take-le, length-drop, err_from_is_err_and, common_steps}
use Rattle.gts_replay.proofs.HeldLemmas.{behind_first}
use Rattle.gts_replay.proofs.steps.Steps.held_head.Goals as goal

pub returns-in_err-head-clause-stop : goal.returns-in_err-head-clause-stop
returns-in_err-head-clause-stop c =
    let p = err_from_is_err_and c.from_residual.result c.from_residual.ensures.1 in
    rw (p.1, p.2, ← c.self.view_is) c.in_err-head.ensures.stop

pub returns-clause-head : goal.returns-clause-head
returns-clause-head c = grind (arith, common_steps, length-take-le, length-drop, behind_first)
