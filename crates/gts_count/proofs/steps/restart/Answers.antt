use Rattle.gts_count.proofs.Cited.{refl}
use Rattle.gts_count.proofs.CallLemmas.{counted_reopening}
use Rattle.gts_count.proofs.steps.restart.Goals as goal

pub returns-clause-reopening : goal.returns-clause-reopening
returns-clause-reopening g c = counted_reopening g.T.Switch.meanings g.T.Switch.observed c.restart.result c.args.parts.now _ refl c.restart.ensures.reopening
