use Rattle.gts_migrate.proofs.Cited.{◌≡◌, ◌<◌, ◌==◌, List, [], length, cond, get_or, sym, ap, ◌∙◌, arith, length-map, CircuitNeed, circuit_need_of, circuit_of_row, circuits_under, last_of, need_of, unused, sound-parts}
use Rattle.gts_event.specs.declared.values.CircuitNeed as values
use Rattle.gts_migrate.proofs.LettingGoLemmas.{need_at}
use Rattle.gts_migrate.proofs.BringingLemmas.{under_at, under_further, if_ok}
use Rattle.gts_migrate.proofs.bringing.bring_at.Goals as goal

pub returns-then-c-circuits : goal.returns-then-c-circuits
returns-then-c-circuits c =
    c.unused.ensures
    ∙ under_further c.args.new.now c.args.old.now (need_of c.args.need.now) c.args.c c.requires.sound (omega (arith, c.circuits.ensures.value, c.if-c-circuits.true)) c.requires.inside

pub returns : goal.returns
returns c =
    let old = c.args.old.now in
    let new = c.args.new.now in
    let n = need_of c.args.need.now in
    let k = c.args.c in
    let row = circuit_of_row c.circuit.result.now in
    let next = circuit_of_row c.circuit-row.result.now in
    let q = c.index-circuits-c.result in
    let qs = c.args.need.now.circuits in
    let same = (sound-parts old n c.requires.sound).same in
    let low : k < length qs = omega (arith, length-map qs circuit_need_of, same, c.circuits.ensures.value, c.if-c-circuits.false) in
    let here : circuit_need_of q ≡ get_or n.circuits k unused =
    need_at qs k q low (c.index-circuits-c.is ∙ ap (λ (xs : List values.CircuitNeed). get_or xs k q) c.as_slice-circuits.ensures) in
    if_ok
    (λ found. circuit_need_of found ≡ record (circuit_need_of q) {
      waiting = cond next.closed [] q.waiting;
      kept = last_of next.kept (cond (next.digits == row.digits) q.kept []);
      owed = [];
    })
    (λ found. circuit_need_of found ≡ get_or (circuits_under new old n) k unused) c.bring.result
    (λ found made.
    made
    ∙ ap (λ (x : CircuitNeed). record x {
      waiting = cond next.closed [] x.waiting;
      kept = last_of next.kept (cond (next.digits == row.digits) x.kept []);
      owed = [];
    }) here
    ∙ sym (under_at new old n k row next c.requires.sound c.circuit.ensures.row c.circuit-row.ensures.row))
    c.bring.ensures
