use Rattle.gts_generate.proofs.Cited.{Err, sym, ap}
use Rattle.gts_generate.proofs.day.day_summary.Goals as goal

pub returns-in_err-run-clause-full : goal.returns-in_err-run-clause-full
returns-in_err-run-clause-full c used wanted limit is =
    let same = rw is at c.from_residual-in_err-run.ensures.1 in
    c.in_err-run.ensures.full used wanted limit (ap (λ e. Err e) (sym same))
