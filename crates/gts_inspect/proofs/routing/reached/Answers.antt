use Rattle.gts_inspect.proofs.Cited.{◌++◌, ℕ, Bool, List, ap, sym, ◌∙◌, fields_of, filter, is_reached, range_with_len, where_holds}
use Rattle.gts_inspect.proofs.RouteLemmas.{filter_more}
use Rattle.gts_inspect.proofs.routing.reached.Goals as goal

pub loop-circuit-preserved : goal.loop-circuit-preserved
loop-circuit-preserved c =
    let k : ℕ = c.loop-circuit.circuit in
    let test : ℕ → Bool = is_reached c.args.directory.now (fields_of c.args.heading.now) in
    c.in_ok-add_where.ensures ∙ ap (λ (l : List ℕ). l ++ where_holds c.is_reached-reached.result k) c.loop-circuit.invariant
    ∙ ap (λ (b : Bool). filter test (range_with_len 0 k) ++ where_holds b k) c.is_reached-reached.ensures ∙ sym (filter_more test k)
