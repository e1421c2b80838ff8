use Rattle.gts_gap.proofs.Cited.{arith, common_steps}
use Rattle.gts_gap.proofs.CountingLemmas.{does_take, does_drain, does_reopen, does_restart, does_compact, feeds_step}
use Rattle.gts_gap.proofs.reading.do_step.Goals as goal

pub returns-in-Feed-clause-does : goal.returns-in-Feed-clause-does
returns-in-Feed-clause-does g c = grind (arith, common_steps, feeds_step)

pub returns-in-Reopen-clause-does : goal.returns-in-Reopen-clause-does
returns-in-Reopen-clause-does g c = grind (arith, common_steps, does_reopen)

pub returns-in-Restart-clause-does : goal.returns-in-Restart-clause-does
returns-in-Restart-clause-does g c = grind (arith, common_steps, does_restart)

pub returns-in-Take-clause-does : goal.returns-in-Take-clause-does
returns-in-Take-clause-does g c = grind (arith, common_steps, does_take)

pub returns-in-Drain-clause-does : goal.returns-in-Drain-clause-does
returns-in-Drain-clause-does g c = grind (arith, common_steps, does_drain)

pub returns-in-Compact-clause-does : goal.returns-in-Compact-clause-does
returns-in-Compact-clause-does g c = grind (arith, common_steps, does_compact)
