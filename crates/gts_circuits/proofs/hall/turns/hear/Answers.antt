use Rattle.gts_circuits.proofs.Cited.{◌≡◌, List, [], ◌∷◌, ◌++◌, refl, sym, ap, ◌∙◌, subst, Engine, Entry, Heard, Known, SaysNoMore, Stands, after_adding, all_of, entries, entries_under, entry_by, common_steps, arith}
use Rattle.gts_circuits.proofs.TurningLemmas.{answers}
use Rattle.gts_circuits.proofs.hall.turns.hear.Goals as goal

pub leave-requires-clause-value : goal.leave-requires-clause-value
leave-requires-clause-value g c =
    let h = c.in-Ok.turn.pass.seen in
    let S : Engine _ → Type 0 = λ e. Stands g.P.Station g.B.Began.beginning (all_of (entries h)) e in
    let stands = subst S (ap (λ (v : _). v.engine) (sym c.value.ensures.value)) c.in-Ok.ensures.value.0 in
    let adds = c.hear-answer.ensures.adds (all_of (entries h)) stands in
    let A : Engine _ → Type 0 = λ e. Stands g.P.Station g.B.Began.beginning
    (all_of (entries h) ++ entry_by (Heard c.args.c c.args.kind c.args.message.now) c.hear-answer.result ∷ []) e in
    (entry_by (Heard c.args.c c.args.kind c.args.message.now) c.hear-answer.result ∷ [], refl, subst A (ap (λ (v : _). v.engine) (sym c.value-2.ensures.value)) adds.stands)

pub leave-requires-clause-mode : goal.leave-requires-clause-mode
leave-requires-clause-mode g c = grind (arith, common_steps)

pub returns-clause-answers : goal.returns-clause-answers
returns-clause-answers g c =
    let h = c.in-Ok.turn.pass.seen in
    let S : Engine _ → Type 0 = λ e. Stands g.P.Station g.B.Began.beginning (all_of (entries h)) e in
    let stands = subst S (ap (λ (v : _). v.engine) (sym c.value.ensures.value)) c.in-Ok.ensures.value.0 in
    let adds = c.hear-answer.ensures.adds (all_of (entries h)) stands in
    let t = c.in-Ok.ensures.same in
    let R : Known (List Entry) → Type 0 = λ k. k.own ≡ entries_under k.name h in
    let same = subst R t c.in-Ok.ensures.accounts.0 in
    let p = c.leave.ensures.pass in
    let A : Known (List Entry) → Type 0 = λ k. c.leave.result ≡ after_adding k (entry_by (Heard c.args.c c.args.kind c.args.message.now) c.hear-answer.result ∷ []) in
    let is = subst A t (p.2 ∙ ap (λ (es : List Entry). after_adding c.in-Ok.turn.pass es) p.1) in
    answers g.P.Station g.B.Began.beginning
    c.args.pass c.leave.result h c.hear-answer.new.self.engine c.in-Ok.ensures.later c.requires.own same (Heard c.args.c c.args.kind c.args.message.now) SaysNoMore c.hear-answer.result adds is

pub hear-answer-requires-clause-circuit : goal.hear-answer-requires-clause-circuit
hear-answer-requires-clause-circuit g c = grind (arith, common_steps)

pub hear-answer-requires-clause-mode : goal.hear-answer-requires-clause-mode
hear-answer-requires-clause-mode g c = ap (λ (v : _). v.makes_room) c.value.ensures.value ∙ c.in-Ok.ensures.value.1
