use Rattle.gts_inspect.proofs.Cited.{◌&&◌, ◌||◌, ◌<◌, ℕ, Bool, not, arith, length, ap, sym, ◌∙◌, list_all, names, range_with_len, rule_of_row}
use Rattle.gts_inspect.proofs.RuleLemmas.{all_more, names_is}
use Rattle.gts_inspect.proofs.rules.names_all.Goals as goal

pub loop-circuit-preserved : goal.loop-circuit-preserved
loop-circuit-preserved c =
    let n : ℕ = length c.args.directory.now.circuits in
    let k : ℕ = c.loop-circuit.circuit in
    let rule = c.args.rule.now in
    let by_row = c.args.by.now in
    let within : k < n = omega (arith, c.loop-circuit-test.true, c.circuits-count.ensures.value) in
    let test : ℕ → Bool = λ circuit. not (names circuit (rule_of_row n rule)) || names circuit (rule_of_row n by_row) in
    let here = c.has.ensures ∙ sym (names_is n k rule within) in
    let there = c.has-in-loop-circuit.ensures ∙ sym (names_is n k by_row within) in
    ap (λ (b : Bool). b && (not c.has.result || c.has-in-loop-circuit.result)) c.loop-circuit.invariant
    ∙ ap (λ (b : Bool). list_all test (range_with_len 0 k) && (not b || c.has-in-loop-circuit.result)) here
    ∙ ap (λ (b : Bool). list_all test (range_with_len 0 k) && (not (names k (rule_of_row n rule)) || b)) there ∙ sym (all_more test k)
