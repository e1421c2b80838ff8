use Rattle.gts_circuits.proofs.Cited.{refl}
use Rattle.gts_event.specs.declared.event.Event.TheVariants.{Lost}
use Rattle.gts_engine.specs.declared.mode.SayMode.TheVariants.{Caller}
use Rattle.gts_circuits.proofs.GatheringLemmas.{answered}
use Rattle.gts_circuits.proofs.hall.housed.HousedListens.note_loss.Goals as goal

pub returns-clause-called : goal.returns-clause-called
returns-clause-called g c =
    answered (λ (h : _). h.engine) (λ (h : _). h.makes_room) g.P.Station (Lost c.args.c c.args.field)
    c.gather_lost.result c.args.self.now (record c.args.self.now { engine = c.gather_lost.new.self }) refl c.gather_lost.ensures.cause (λ makes d s accepted. accepted) (c.gather_lost.ensures.called Caller)
