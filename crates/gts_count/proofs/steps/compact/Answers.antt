use Rattle.gts_count.proofs.Cited.{refl}
use Rattle.gts_count.proofs.CallLemmas.{counted_compacting}
use Rattle.gts_count.proofs.steps.compact.Goals as goal

pub returns-clause-compacting : goal.returns-clause-compacting
returns-clause-compacting g c = counted_compacting g.T.Switch.meanings c.compact.result c.args.parts.now _ refl c.compact.ensures.compacting
