use Rattle.gts_engine.proofs.Cited.{refl, common_steps, arith}
use Rattle.gts_engine.proofs.SettlingLemmas.{stopped_settles, parts_settle}
use Rattle.gts_engine.proofs.CallLemmas.{if_some, none_some}
use Rattle.gts_engine.proofs.engine.Engine.settle.Goals as goal

pub returns-in-Some-clause-settles : goal.returns-in-Some-clause-settles
returns-in-Some-clause-settles g c = grind (arith, common_steps, stopped_settles)

pub returns-clause-settles : goal.returns-clause-settles
returns-clause-settles g c = grind (arith, common_steps, parts_settle)

pub returns-in-Some-clause-stopped : goal.returns-in-Some-clause-stopped
returns-in-Some-clause-stopped g c = if_some c.args.self.now.stopped (λ by. (refl, refl))

pub returns-clause-stopped : goal.returns-clause-stopped
returns-clause-stopped g c = grind (arith, common_steps, none_some)
