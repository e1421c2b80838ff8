use Rattle.gts_core.proofs.Cited.{◌≡◌, ◌∙◌, ap, sym, subst, List, ℕ, IsNonDecreasing, searched, CircuitNeed, has, holds, has_searched}
use Rattle.gts_core.proofs.holding.Holding.has.Goals as goal

pub returns : goal.returns
returns c =
    let xs = c.deref.result.now in
    let is : xs ≡ c.self.inside.held.items = c.deref.ensures.value in
    let order : IsNonDecreasing xs = subst IsNonDecreasing (sym is) c.self.invariant.order in
    c.is_ok.ensures.value
    ∙ has_searched xs c.args.position c.binary_search.result
    (searched xs c.args.position c.binary_search.result c.binary_search.ensures.position (λ i j l m. order i j 0 l m))
    ∙ ap (λ (numbers : List ℕ). has numbers c.args.position) is
    ∙ c.self.invariant.each c.args.position
    ∙ ap (λ (n : CircuitNeed). holds n c.args.position) c.self.view_is
