use Rattle.gts_replay.proofs.Cited.{arith, length-take-le, length-drop, common_steps}
use Rattle.gts_replay.proofs.HeldLemmas.{handed_on}
use Rattle.gts_replay.proofs.steps.Steps.hand_on.Goals as goal

pub returns-clause-taken : goal.returns-clause-taken
returns-clause-taken c = grind (arith, common_steps, length-take-le, length-drop, handed_on)
