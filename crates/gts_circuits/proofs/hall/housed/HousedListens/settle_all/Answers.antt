use Rattle.gts_circuits.proofs.Cited.{refl}
use Rattle.gts_engine.specs.declared.mode.SayMode.TheVariants.{Caller}
use Rattle.gts_circuits.proofs.GatheringLemmas.{settles}
use Rattle.gts_circuits.proofs.hall.housed.HousedListens.settle_all.Goals as goal

pub returns-clause-settling : goal.returns-clause-settling
returns-clause-settling g c =
    settles (λ (h : _). h.engine) (λ (h : _). h.makes_room) g.P.Station
    c.settle.result c.args.self.now (record c.args.self.now { engine = c.settle.new.self }) refl c.settle.ensures.cause (c.settle.ensures.settles.settling Caller)
