use Rattle.gts_directory.proofs.Cited.{arith, common_steps}
use Rattle.gts_directory.proofs.TableLemmas.{lowest_set, joined-none, joined-step}
use Rattle.gts_directory.proofs.table.joined.Goals as goal

pub bounds-rules-rule : goal.bounds-rules-rule
bounds-rules-rule c = (lowest_set _ _ c.loop-left-test.true c.loop-left.auto.left-fits.fits c.loop-left.invariant.below).within

pub bounds-rules-rule-in-loop-left : goal.bounds-rules-rule-in-loop-left
bounds-rules-rule-in-loop-left c = (lowest_set _ _ c.loop-left-test.true c.loop-left.auto.left-fits.fits c.loop-left.invariant.below).within

pub overflow_sub-left : goal.overflow_sub-left
overflow_sub-left c = grind (arith, common_steps, lowest_set)

pub loop-left-preserved : goal.loop-left-preserved
loop-left-preserved c = grind (arith, common_steps, lowest_set, joined-step)

pub returns : goal.returns
returns c k = grind (arith, common_steps, joined-none)
