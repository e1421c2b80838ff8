use Rattle.gts_circuits.proofs.Cited.{◌≡◌, true, false, sym, ◌∙◌, Caller, Heard, SaysNoMore}
use Rattle.gts_circuits.proofs.StandingLemmas.{adds, adds_with_room}
use Rattle.gts_circuits.proofs.hall.housed.Housed.hear.Goals as goal

pub returns-then-self-clause-adds : goal.returns-then-self-clause-adds
returns-then-self-clause-adds g c = λ entries stands.
    adds_with_room g.P.Station g.B.Began.beginning entries (Heard c.args.c c.args.kind c.args.message.now) SaysNoMore
    c.hear_with_room.result c.args.self.now.engine c.hear_with_room.new.self c.hear_with_room.ensures.called c.hear_with_room.ensures.cause (λ o s. tt) (sym c.requires.mode ∙ c.if-self.true) stands

pub returns-clause-adds : goal.returns-clause-adds
returns-clause-adds g c = λ entries stands.
    adds g.P.Station g.B.Began.beginning entries (Heard c.args.c c.args.kind c.args.message.now) SaysNoMore
    c.hear.result c.args.self.now.engine c.hear.new.self (c.hear.ensures.called Caller) c.hear.ensures.cause (λ o ok. tt)
    (λ makes. absurd (let x : true ≡ false = sym makes ∙ sym c.requires.mode ∙ c.if-self.false in cc x)) stands
