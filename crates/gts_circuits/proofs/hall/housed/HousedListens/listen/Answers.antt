use Rattle.gts_circuits.proofs.Cited.{◌≡◌, true, false, refl, sym, ◌∙◌, Caller, Heard, as_heard}
use Rattle.gts_circuits.proofs.GatheringLemmas.{answered, heard_with_room, M}
use Rattle.gts_circuits.proofs.hall.housed.HousedListens.listen.Goals as goal

pub returns-then-self-clause-heard : goal.returns-then-self-clause-heard
returns-then-self-clause-heard g c =
    heard_with_room (λ (h : _). h.engine) (λ (h : _). h.makes_room) g.P.Station (Heard c.args.c c.args.kind c.args.message.now)
    c.gather_hear_with_room.result c.args.self.now (record c.args.self.now { engine = c.gather_hear_with_room.new.self }) refl c.gather_hear_with_room.ensures.cause c.if-self.true (c.gather_hear_with_room.ensures.called Caller)

pub returns-clause-heard : goal.returns-clause-heard
returns-clause-heard g c =
    let new = record c.args.self.now { engine = c.gather_hear.new.self } in
    as_heard (M (λ (h : _). h.engine) (λ (h : _). h.makes_room) g.P.Station) (Heard c.args.c c.args.kind c.args.message.now)
    c.gather_hear.result c.args.self.now new
    (answered (λ (h : _). h.engine) (λ (h : _). h.makes_room) g.P.Station (Heard c.args.c c.args.kind c.args.message.now)
    c.gather_hear.result c.args.self.now new refl c.gather_hear.ensures.cause
    (λ makes d s accepted. let x : true ≡ false = sym makes ∙ c.if-self.false in cc x) (c.gather_hear.ensures.called Caller))
