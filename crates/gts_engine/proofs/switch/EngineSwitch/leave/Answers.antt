use Rattle.gts_engine.proofs.SwitchLemmas.{told_leave}
use Rattle.gts_engine.proofs.switch.EngineSwitch.leave.Goals as goal

pub returns : goal.returns
returns g c = record { leaves = told_leave g.P.Station c.args.self.now }
