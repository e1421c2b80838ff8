use Rattle.gts_checkpoint.proofs.Cited.{◌≡◌, ℕ, Bool, true, List, map, sym, ap, ◌∙◌, Circuit, IsJudged, bulletin_of, circuit_need_of, circuit_of_row, has_counts, has_positions, is_there, need_of}
use Rattle.gts_event.specs.declared.values.Bulletin as values
use Rattle.gts_checkpoint.proofs.SoundLemmas.{circuit-is, positions-agree, if-ok}
use Rattle.gts_checkpoint.proofs.sound.is_circuit_sound.Goals as goal

pub returns : goal.returns
returns c =
    let d = c.args.directory.now in
    let n = need_of c.args.need.now in
    let q = circuit_need_of c.args.c.now in
    let test = is_there (map bulletin_of c.as_slice.result.now) in
    let agrees : (p : ℕ) → test p ≡ is_there n.bulletins p = λ p.
    ap (λ (bs : List values.Bulletin). is_there (map bulletin_of bs) p) c.as_slice.ensures in
    if-ok (λ (sound : Bool). sound ≡ has_positions test c.as_slice-2.result.now c.as_slice-3.result.now) (IsJudged d n c.args.circuit q)
    c.has_positions.result
    (λ sound e row at.
    let here = c.circuit.ensures.row in
    let same : row ≡ circuit_of_row c.circuit.result.now = cc in
    let counts : has_counts n.accepted row.kept q ≡ true =
    ap (λ (r : Circuit). has_counts n.accepted r.kept q) same ∙ sym c.has_counts.ensures ∙ c.if-not-has_counts.false in
    e ∙ ap (λ (ps : List ℕ). has_positions test ps c.as_slice-3.result.now) c.as_slice-2.ensures
    ∙ ap (λ (ps : List ℕ). has_positions test q.waiting ps) c.as_slice-3.ensures
    ∙ positions-agree test (is_there n.bulletins) q.waiting q.kept agrees
    ∙ sym (circuit-is n row.kept q counts (sym c.owes_few.ensures ∙ c.if-not-owes_few.false)))
    c.has_positions.ensures
