use Rattle.gts_inspect.proofs.Cited.{◌==◌, ◌++◌, ℕ, Bool, List, ap, sym, ◌∙◌, bit_at, filter, range_with_len, where_holds}
use Rattle.gts_inspect.proofs.RouteLemmas.{filter_more}
use Rattle.gts_inspect.proofs.routing.circuits_of.Goals as goal

pub loop-circuit-preserved : goal.loop-circuit-preserved
loop-circuit-preserved c =
    let k : ℕ = c.loop-circuit.circuit in
    c.in_ok-add_where.ensures ∙ ap (λ (l : List ℕ). l ++ where_holds c.has.result k) c.loop-circuit.invariant
    ∙ ap (λ (b : Bool). filter (λ n. bit_at c.args.set n == 1) (range_with_len 0 k) ++ where_holds b k) c.has.ensures
    ∙ sym (filter_more (λ n. bit_at c.args.set n == 1) k)
