use Rattle.gts_count.proofs.Cited.{◌≡◌, ℕ, List, length, map, take, sym, ap, subst, ◌∙◌, arith, IsSome, All, CircuitNeed, NotesDraws, NotesKept, circuit_need_of, nat_cmp, length-take, length-map}
use Rattle.gts_count.specs.Cited.{get}
use Rattle.gts_event.specs.declared.values.CircuitNeed as values
use Rattle.gts_count.proofs.StartingLemmas.{item_more, draws_more}
use Rattle.gts_count.proofs.start.note_draws.Goals as goal

pub note_kept-requires-clause-known : goal.note_kept-requires-clause-known
note_kept-requires-clause-known c =
    subst (λ (l : List ℕ). All (λ p. IsSome (get nat_cmp c.args.keys.now p)) l) (sym c.as_slice.ensures) (c.requires.known c.loop-c.c c.index-circuits-c.result c.loop-c-test.true)

pub loop-c-preserved : goal.loop-c-preserved
loop-c-preserved c =
    let cs : List CircuitNeed = map circuit_need_of c.args.circuits.now in
    let i : ℕ = c.loop-c.c in
    let q : CircuitNeed = circuit_need_of c.index-circuits-c.result in
    let mid = c.loop-c.numbers in
    let new = c.note_kept.new.numbers in
    let size : length (take i cs) ≡ i = omega (arith, length-take i cs, length-map c.args.circuits.now circuit_need_of, c.loop-c-test.true) in
    let kept : c.as_slice.result.now ≡ q.kept = c.as_slice.ensures ∙ ap (λ (x : values.CircuitNeed). x.kept) (sym c.index-circuits-c.is) in
    let one : NotesKept c.args.keys.now (length (take i cs)) q.kept mid new =
    subst (λ (k : ℕ). NotesKept c.args.keys.now k q.kept mid new) (sym size) (subst (λ (ps : List ℕ). NotesKept c.args.keys.now i ps mid new) kept c.note_kept.ensures) in
    subst (λ (l : List CircuitNeed). NotesDraws c.args.keys.now l c.args.numbers.now new) (sym (item_more circuit_need_of c.args.circuits.now i c.index-circuits-c.result c.loop-c-test.true c.index-circuits-c.is))
    (draws_more c.args.keys.now (take i cs) q c.args.numbers.now mid new (omega (arith, size, c.loop-c-test.true, c.requires.circuits)) c.loop-c.invariant one)
