use Rattle.gts_circuits.proofs.Cited.{◌≡◌, List, sym, ap, subst, Engine, Entry, Known, Stands, after_adding, all_of, entries, entries_under, frames_of, common_steps, arith}
use Rattle.gts_circuits.proofs.TurningLemmas.{takes_some}
use Rattle.gts_circuits.proofs.hall.turns.take_some.Goals as goal

pub leave-requires-clause-value : goal.leave-requires-clause-value
leave-requires-clause-value g c =
    let h = c.in-Ok.turn.pass.seen in
    let S : Engine _ → Type 0 = λ e. Stands g.P.Station g.B.Began.beginning (all_of (entries h)) e in
    let stands = subst S (ap (λ (v : _). v.engine) (sym c.value.ensures.value)) c.in-Ok.ensures.value.0 in
    let left = c.take_some-answer.ensures.left (all_of (entries h)) stands in
    (left.0, left.1, left.1.stands)

pub leave-requires-clause-mode : goal.leave-requires-clause-mode
leave-requires-clause-mode g c = grind (arith, common_steps)

pub returns-clause-taken : goal.returns-clause-taken
returns-clause-taken g c =
    let b = g.B.Began.beginning in
    let h = c.in-Ok.turn.pass.seen in
    let t = c.in-Ok.ensures.same in
    let p = c.leave.ensures.pass in
    let R : Known (List Entry) → Type 0 = λ k. k.own ≡ entries_under k.name h in
    let same = subst R t c.in-Ok.ensures.accounts.0 in
    let A : Known (List Entry) → Type 0 = λ k. c.leave.result ≡ after_adding k p.0 in
    let is = subst A t p.2 in
    takes_some g.P.Station b c.args.pass c.leave.result h c.take_some-answer.new.housed.engine c.in-Ok.ensures.later
    c.requires.own same c.args.c (frames_of c.take_some-answer.new.given.frames) c.take_some-answer.result p.0 p.1.added is p.1.stands

pub take_some-answer-requires : goal.take_some-answer-requires
take_some-answer-requires g c = grind (arith, common_steps)
