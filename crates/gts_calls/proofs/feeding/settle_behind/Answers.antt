use Rattle.gts_calls.proofs.SettlingLemmas.{settles_none, settles_done, settles_failed}
use Rattle.gts_calls.proofs.feeding.settle_behind.Goals as goal
use Rattle.gts_calls.proofs.Cited.{common_steps, arith}

pub returns-then-not-is_done-clause-settles : goal.returns-then-not-is_done-clause-settles
returns-then-not-is_done-clause-settles g c = grind (arith, common_steps, settles_none)

pub returns-in-Ok-clause-settles : goal.returns-in-Ok-clause-settles
returns-in-Ok-clause-settles g c = grind (arith, common_steps, settles_done)

pub returns-in-Err-clause-settles : goal.returns-in-Err-clause-settles
returns-in-Err-clause-settles g c = grind (arith, common_steps, settles_failed)
