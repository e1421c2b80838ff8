use Rattle.gts_accum.proofs.Cited.{arith, take_rest, common_steps}
use Rattle.gts_accum.proofs.UnpackingLemmas.{gives_front}
use Rattle.gts_accum.proofs.parts.UnpackedParts+ReadAhead+S.give.Goals as goal

pub returns-clause-gives : goal.returns-clause-gives
returns-clause-gives g c = grind (arith, common_steps, take_rest, gives_front)
