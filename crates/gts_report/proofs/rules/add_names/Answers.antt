use Rattle.gts_report.proofs.Cited.{ℕ, List, ◌++◌, append_assoc, sym, ap, ◌∙◌, circuits_in, name_text, names_text}
use Rattle.gts_report.proofs.RuleLemmas.{names_more}
use Rattle.gts_report.proofs.rules.add_names.Goals as goal

pub loop-c-preserved : goal.loop-c-preserved
loop-c-preserved c =
    let d = c.args.directory.now in
    let mask = c.args.circuits in
    let k = c.loop-c.c in
    let text : List ℕ = c.args.text.now in
    c.in_ok-add_name.ensures ∙ ap (λ (l : List ℕ). l ++ name_text d mask k) c.loop-c.invariant
    ∙ append_assoc text (names_text d (circuits_in k mask)) (name_text d mask k)
    ∙ ap (λ (l : List ℕ). text ++ l) (sym (names_more d mask k))
