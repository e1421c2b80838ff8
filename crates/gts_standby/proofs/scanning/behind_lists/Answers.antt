use Rattle.gts_standby.proofs.ScanLemmas.{end_first, reaches_same, reaches_err}
use Rattle.gts_standby.proofs.scanning.behind_lists.Goals as goal
use Rattle.gts_standby.proofs.Cited.{common_steps, arith}

pub returns-in_err-front-clause-reached : goal.returns-in_err-front-clause-reached
returns-in_err-front-clause-reached g c = grind (arith, common_steps, reaches_err, end_first)

pub returns-in_err-at-clause-reached : goal.returns-in_err-at-clause-reached
returns-in_err-at-clause-reached g c = grind (arith, common_steps, reaches_err, end_first)

pub returns-clause-reached : goal.returns-clause-reached
returns-clause-reached g c = grind (arith, common_steps, reaches_same)
