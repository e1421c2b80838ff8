use Rattle.gts_accum.proofs.Cited.{arith, length-take-le, length-drop, common_steps}
use Rattle.gts_replay.proofs.HeldLemmas.{handed_on}
use Rattle.gts_accum.proofs.read_ahead.ReadAhead.hand_on.Goals as goal

pub returns-clause-taken : goal.returns-clause-taken
returns-clause-taken g c = grind (arith, common_steps, length-take-le, length-drop, handed_on)
