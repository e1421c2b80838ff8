use Rattle.gts_inspect.proofs.Cited.{◌++◌, ℕ, Bool, List, ap, ◌∙◌, fields_of, matches, places, take, where_holds, RuleRow}
use Rattle.gts_inspect.proofs.RouteLemmas.{places_next}
use Rattle.gts_inspect.proofs.routing.matching.Goals as goal

pub loop-place-preserved : goal.loop-place-preserved
loop-place-preserved c =
    let rows : List RuleRow = c.args.rules.now in
    let k : ℕ = c.loop-place.place in
    let test : RuleRow → Bool = λ row. matches row.heading (fields_of c.args.heading.now) in
    c.in_ok-add_where.ensures ∙ ap (λ (l : List ℕ). l ++ where_holds c.matches.result k) c.loop-place.invariant
    ∙ ap (λ (b : Bool). places test 0 (take k rows) ++ where_holds b k) c.matches.ensures
    ∙ places_next test rows k c.index-rules-place.result c.loop-place-test.true c.index-rules-place.is
