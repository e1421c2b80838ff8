use Rattle.gts_count.proofs.CallLemmas.{counted_leave}
use Rattle.gts_count.proofs.steps.leave.Goals as goal

pub returns : goal.returns
returns g c = counted_leave g.T.Switch.meanings c.args.parts.now c.leave.ensures.leaves
