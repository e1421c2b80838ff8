use Rattle.gts_report.proofs.Cited.{◌≡◌, ℕ, ◌<◌, ◌==◌, Bool, true, false, cond, nat_lt, List, [], length, get_or, codes, Result, Ok, Err, sym, ap, ◌∙◌, arith, IfOk, lt-ltb, le-ltb, get_or-map, length-map, get_or_from_slice_get, Circuit, CircuitNeed, behind, circuit_need_of, circuit_of, circuit_of_row, last_of, need_of, need_of_circuit, row_of, stays_lines, unused, word_line, circuit_lines, sound-parts}
use Rattle.gts_event.specs.declared.values.CircuitNeed as values
use Rattle.gts_report.proofs.circuits.circuit_lines.Goals as goal

if_ok : {A E : Type 0} (P Q : A → Type 0) (r : Result A E) → ((x : A) → P x → Q x) → IfOk r P → IfOk r Q
if_ok P Q (Ok x) more h = more x h
if_ok P Q (Err e) more h = tt

pub returns-then-c-circuits : goal.returns-then-c-circuits
returns-then-c-circuits c =
    let old = c.args.old.now in
    let new = c.args.new.now in
    let n = need_of c.args.need.now in
    let k = c.args.c in
    let is : Circuit = circuit_of_row c.circuit-row.result.now in
    let is_row : row_of new k ≡ is = get_or_from_slice_get new.circuits k is (circuit_of [] []) c.circuit-row.ensures.row in
    let name : c.unpadded.result.now ≡ (row_of new k).name = c.unpadded.ensures ∙ ap (λ (r : Circuit). r.name) (sym is_row) in
    let far : nat_lt k (length old.circuits) ≡ false = le-ltb k (length old.circuits) (omega (arith, c.circuits.ensures.value, c.if-c-circuits.true)) in
    if_ok (λ (text : List ℕ). text ≡ word_line k c.unpadded.result.now (codes "added"))
    (λ (text : List ℕ). text ≡ circuit_lines new old n (behind new old n) k) c.word_line.result
    (λ text made.
    made ∙ ap (λ (l : List ℕ). word_line k l (codes "added")) name
    ∙ sym (ap (λ (b : Bool). cond b (stays_lines k (row_of old k) (row_of new k) (need_of_circuit n k) (need_of_circuit (behind new old n) k)) (word_line k (row_of new k).name (codes "added"))) far))
    c.word_line.ensures

pub returns : goal.returns
returns c =
    let old = c.args.old.now in
    let new = c.args.new.now in
    let n = need_of c.args.need.now in
    let m = behind new old n in
    let k = c.args.c in
    let was : Circuit = circuit_of_row c.circuit.result.now in
    let is : Circuit = circuit_of_row c.circuit-row.result.now in
    let q = c.index-circuits-c.result in
    let qs : List values.CircuitNeed = c.args.need.now.circuits in
    let same = (sound-parts old n c.requires.sound).same in
    let low : k < length qs = omega (arith, length-map qs circuit_need_of, same, c.circuits.ensures.value, c.if-c-circuits.false) in
    let here : need_of_circuit n k ≡ circuit_need_of q =
    get_or-map circuit_need_of qs k q unused low
    ∙ ap circuit_need_of (sym (c.index-circuits-c.is ∙ ap (λ (xs : List values.CircuitNeed). get_or xs k q) c.as_slice-circuits.ensures)) in
    let was_row : row_of old k ≡ was = get_or_from_slice_get old.circuits k was (circuit_of [] []) c.circuit.ensures.row in
    let is_row : row_of new k ≡ is = get_or_from_slice_get new.circuits k is (circuit_of [] []) c.circuit-row.ensures.row in
    let goes = c.a_circuit_goes_on.ensures new old n c.requires.sound k was is c.circuit.ensures.row c.circuit-row.ensures.row in
    let kept : (need_of_circuit m k).kept ≡ last_of is.kept (cond (is.digits == was.digits) q.kept []) =
    ap (λ (x : CircuitNeed). x.kept) goes ∙ ap (λ (x : CircuitNeed). last_of is.kept (cond (is.digits == was.digits) x.kept [])) here in
    let near : nat_lt k (length old.circuits) ≡ true = lt-ltb k (length old.circuits) (omega (arith, c.circuits.ensures.value, c.if-c-circuits.false)) in
    let lines : circuit_lines new old n m k ≡ stays_lines k was is (circuit_need_of q) (need_of_circuit m k) =
    ap (λ (b : Bool). cond b (stays_lines k (row_of old k) (row_of new k) (need_of_circuit n k) (need_of_circuit m k)) (word_line k (row_of new k).name (codes "added"))) near
    ∙ ap (λ (r : Circuit). stays_lines k r (row_of new k) (need_of_circuit n k) (need_of_circuit m k)) was_row
    ∙ ap (λ (r : Circuit). stays_lines k was r (need_of_circuit n k) (need_of_circuit m k)) is_row
    ∙ ap (λ (x : CircuitNeed). stays_lines k was is x (need_of_circuit m k)) here in
    if_ok (λ (text : List ℕ). (x : CircuitNeed) → x.kept ≡ last_of is.kept (cond (is.digits == was.digits) q.kept [])
    → text ≡ stays_lines k was is (circuit_need_of q) x)
    (λ (text : List ℕ). text ≡ circuit_lines new old n m k) c.stays_lines.result
    (λ text made. made (need_of_circuit m k) kept ∙ sym lines)
    c.stays_lines.ensures
