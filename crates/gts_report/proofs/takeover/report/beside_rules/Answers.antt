use Rattle.gts_report.proofs.Cited.{◌≡◌, ℕ, ◌-◌, List, [], ◌∷◌, ◌++◌, length, codes, ap, ◌∙◌, all_circuit_lines, behind, duplicates_line, known, need_of, refusal, refused_line}
use Rattle.gts_report.proofs.takeover.report.beside_rules.Goals as goal

pub returns : goal.returns
returns c =
    let old = c.args.old.now in
    let new = c.args.new.now in
    let n = need_of c.args.trial.now.need in
    let circuits : List ℕ = all_circuit_lines new old n (behind new old n) in
    let twins : List ℕ = duplicates_line (length (known old n) - length (known new (behind new old n))) in
    let refused : List ℕ = refused_line (refusal new old n) in
    let one : c.add.new.self ≡ circuits ++ twins =
    c.in_ok-add.ensures.ok ∙ ap (λ (l : List ℕ). l ++ c.bytes.result.now) c.in_ok-text.ensures
    ∙ ap (λ (l : List ℕ). circuits ++ l) (c.bytes.ensures ∙ c.in_ok-duplicates.ensures ∙ ap duplicates_line c.forgotten_duplicates-forgotten.ensures) in
    let two : c.add-2.new.self ≡ (circuits ++ twins) ++ refused =
    c.in_ok-add-2.ensures.ok ∙ ap (λ (l : List ℕ). l ++ c.bytes-2.result.now) one
    ∙ ap (λ (l : List ℕ). (circuits ++ twins) ++ l) (c.bytes-2.ensures ∙ c.in_ok-refused.ensures ∙ ap refused_line c.requires.refused) in
    let three : c.add-3.new.self ≡ ((circuits ++ twins) ++ refused) ++ codes "end" =
    c.in_ok-add-3.ensures.ok ∙ ap (λ (l : List ℕ). l ++ codes "end") two in
    c.in_ok-add-4.ensures.ok ∙ ap (λ (l : List ℕ). l ++ 10 ∷ []) three
