use Rattle.gts_report.proofs.Cited.{◌≡◌, ℕ, Bool, true, cond, ◌==◌, List, [], ◌∷◌, ◌++◌, Result, Ok, Err, append_assoc, sym, ap, ◌∙◌, OnOk, Circuit, bit_at, circuit_of, circuit_of_row, name_text, row_of, get_or_from_slice_get}
use Rattle.gts_report.proofs.rules.add_name.Goals as goal

on_ok : {A E : Type 0} {P Q : Type 0} (r : Result A E) → (P → Q) → OnOk r P → OnOk r Q
on_ok (Ok x) f p = f p
on_ok (Err e) f p = tt

pub returns : goal.returns
returns c =
    let d = c.args.directory.now in
    let k = c.args.c in
    let text : List ℕ = c.args.text.now in
    let row : Circuit = circuit_of_row c.circuit.result.now in
    let set : (bit_at c.args.circuits k == 1) ≡ true = sym c.has.ensures ∙ c.if-not-has.false in
    let is : row_of d k ≡ row = get_or_from_slice_get d.circuits k row (circuit_of [] []) c.circuit.ensures.row in
    let name : c.unpadded.result.now ≡ (row_of d k).name = c.unpadded.ensures ∙ ap (λ (r : Circuit). r.name) (sym is) in
    let there : 32 ∷ (row_of d k).name ≡ name_text d c.args.circuits k = ap (λ (b : Bool). cond b (32 ∷ (row_of d k).name) []) (sym set) in
    let all : c.add.new.self ++ c.unpadded.result.now ≡ text ++ name_text d c.args.circuits k =
    ap (λ (l : List ℕ). l ++ c.unpadded.result.now) c.in_ok-add.ensures.ok ∙ append_assoc text (32 ∷ []) c.unpadded.result.now
    ∙ ap (λ (l : List ℕ). text ++ 32 ∷ l) name ∙ ap (λ (l : List ℕ). text ++ l) there in
    on_ok c.add-2.result (λ made. made ∙ all) c.add-2.ensures.ok
