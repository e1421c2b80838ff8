use Rattle.gts_accum.proofs.Cited.{arith, append-nil, length-take-le, common_steps}
use Rattle.gts_accum.proofs.UnpackingLemmas.{ahead-head, head-cut}
use Rattle.gts_accum.proofs.parts.UnpackedParts+ReadAhead+S.stop.Goals as goal

pub returns-else-self-eq0-clause-same : goal.returns-else-self-eq0-clause-same
returns-else-self-eq0-clause-same g c = grind (arith, common_steps, length-take-le, append-nil, head-cut, ahead-head)
