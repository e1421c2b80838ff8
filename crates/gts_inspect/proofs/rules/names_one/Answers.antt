use Rattle.gts_inspect.proofs.Cited.{◌||◌, ◌<◌, ℕ, Bool, arith, length, ap, sym, ◌∙◌, list_any, names, range_with_len, rule_of_row}
use Rattle.gts_inspect.proofs.RuleLemmas.{any_more, names_is}
use Rattle.gts_inspect.proofs.rules.names_one.Goals as goal

pub loop-circuit-preserved : goal.loop-circuit-preserved
loop-circuit-preserved c =
    let n : ℕ = length c.args.directory.now.circuits in
    let k : ℕ = c.loop-circuit.circuit in
    let rule = c.args.rule.now in
    let within : k < n = omega (arith, c.loop-circuit-test.true, c.circuits-count.ensures.value) in
    let test : ℕ → Bool = λ circuit. names circuit (rule_of_row n rule) in
    ap (λ (b : Bool). b || c.has-one.result) c.loop-circuit.invariant
    ∙ ap (λ (b : Bool). list_any test (range_with_len 0 k) || b) (c.has-one.ensures ∙ sym (names_is n k rule within)) ∙ sym (any_more test k)
