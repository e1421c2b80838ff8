use Rattle.gts_accum.specs.Ahead.{left_ahead}
use Rattle.gts_accum.proofs.Cited.{◌≡◌, ℕ, List, IsLeft, Unpacking, ap, capture_left, subst, sym, ◌∙◌, true}
use Rattle.gts_accum.proofs.PassingLemmas.{left-behind}
use Rattle.gts_accum.proofs.traced.Traced.into_inner.Goals as goal

pub returns-clause-left : goal.returns-clause-left
returns-clause-left g c = λ observed failed.
    let was = c.self.invariant.0 in
    let left = g.S.Source.left in
    let same : c.self.inside.unpacked ≡ c.args.self = c.self.view_is in
    let fails : c.self.inside.unpacked.source.failed ≡ true = ap (λ (t : Unpacking _). t.source.failed) same ∙ failed in
    let P = λ (now : List ℕ) (t : Unpacking _). IsLeft g.B.OfFile.file now g.B.OfFile.circuit (capture_left (left_ahead left) t) in
    subst (λ (now : List ℕ). P now c.args.self) (sym (ap left c.into_inner.ensures.source))
    (subst (λ (t : Unpacking _). P (left c.self.inside.unpacked.source.source) t) same
    (left-behind left g.B.OfFile.file g.B.OfFile.circuit c.self.inside.unpacked (was.covers observed) (c.into_inner.ensures.none fails) was.due))
