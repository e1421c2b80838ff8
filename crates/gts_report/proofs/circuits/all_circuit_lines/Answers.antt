use Rattle.gts_report.proofs.Cited.{ℕ, List, ◌++◌, sym, ap, ◌∙◌, behind, need_of, circuit_lines}
use Rattle.gts_report.proofs.CircuitLemmas.{circuits_more}
use Rattle.gts_report.proofs.circuits.all_circuit_lines.Goals as goal

pub loop-c-preserved : goal.loop-c-preserved
loop-c-preserved c =
    let old = c.args.old.now in
    let new = c.args.new.now in
    let n = need_of c.args.need.now in
    let k = c.loop-c.c in
    let more : List ℕ = circuit_lines new old n (behind new old n) k in
    c.in_ok-add.ensures.ok ∙ ap (λ (l : List ℕ). c.loop-c.all ++ l) (c.bytes.ensures ∙ c.in_ok-lines.ensures)
    ∙ ap (λ (l : List ℕ). l ++ more) c.loop-c.invariant ∙ sym (circuits_more new old n (behind new old n) k)
