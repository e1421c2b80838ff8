use Rattle.gts_engine.specs.declared.mode.SayMode.TheVariants.{Station}
use Rattle.gts_engine.proofs.SwitchLemmas.{told_settling}
use Rattle.gts_engine.proofs.switch.EngineSwitch.settle.Goals as goal

pub returns-clause-settling : goal.returns-clause-settling
returns-clause-settling g c =
    told_settling g.P.Station c.settle.result c.args.self.now c.settle.new.self (c.settle.ensures.settles.settling Station)
