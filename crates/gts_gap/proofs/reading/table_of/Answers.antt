use Rattle.gts_gap.proofs.Cited.{arith, err_from_is_err_and, decode_fresh, common_steps}
use Rattle.gts_gap.proofs.reading.table_of.Goals as goal

pub returns-clause-comes : goal.returns-clause-comes
returns-clause-comes g c = grind (arith, common_steps, decode_fresh)

pub returns-in_err-run-clause-comes : goal.returns-in_err-run-clause-comes
returns-in_err-run-clause-comes g c = grind (arith, common_steps, decode_fresh, err_from_is_err_and)
