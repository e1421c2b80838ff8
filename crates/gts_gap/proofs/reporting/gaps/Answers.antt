use Rattle.gts_gap.proofs.Cited.{Result, Err, List, ℕ, refl, sym, ap, subst, ◌∙◌, IsCutAt, IsTabled, Rings, TableFault}
use Rattle.gts_gap.proofs.reporting.gaps.Goals as goal

pub returns-in-Err-Capture-clause-names : goal.returns-in-Err-Capture-clause-names
returns-in-Err-Capture-clause-names g c =
    let d = c.args.directory.now in
    let bytes : List ℕ = g.S.Source.left c.args.capture.now in
    let cut : IsCutAt g.S.Source.observed d bytes c.in-Err-Capture.at =
    subst (λ (r : Result Rings TableFault). IsTabled g.S.Source.observed d r bytes) (c.in-Err-Capture.is ∙ ap (λ (f : TableFault). Err f) c.in-Err-Capture.field-0-is) c.table_of.ensures.comes in
    (subst (λ (at : ℕ). IsCutAt g.S.Source.observed d bytes at) (sym c.in-Err-Capture.at-is) cut, refl)
