use Rattle.gts_count.proofs.Cited.{sym, ◌∙◌, common_steps, arith}
use Rattle.gts_count.proofs.CallLemmas.{counted_settles, noted_settled, noted_failed}
use Rattle.gts_count.proofs.steps.settle.Goals as goal

pub returns-then-is_err-clause-settling : goal.returns-then-is_err-clause-settling
returns-then-is_err-clause-settling g c = grind (arith, common_steps, counted_settles, noted_failed)

pub returns-else-is_err-clause-settling : goal.returns-else-is_err-clause-settling
returns-else-is_err-clause-settling g c =
    counted_settles g.T.Switch.meanings c.settle-answer.result c.args.parts.now _ c.settle-answer.ensures.settling
    (noted_settled c.settle-answer.result c.args.parts.now.counting (sym c.is_err.ensures.value ∙ c.if-is_err.false))
