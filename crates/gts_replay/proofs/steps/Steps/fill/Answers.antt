use Rattle.gts_replay.proofs.Cited.{arith, common_steps}
use Rattle.gts_replay.proofs.HeldLemmas.{filled}
use Rattle.gts_replay.proofs.steps.Steps.fill.Goals as goal

pub returns-clause-told : goal.returns-clause-told
returns-clause-told g c = grind (arith, common_steps, filled)
