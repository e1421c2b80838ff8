use Rattle.gts_checkpoint.proofs.Cited.{arith, common_steps}
use Rattle.gts_checkpoint.proofs.AscendingLemmas.{ascends-from, ascends-not, rise-more, position-at, positions-length}
use Rattle.gts_checkpoint.proofs.ascending.positions_ascend.Goals as goal

pub returns-then-bulletins-i : goal.returns-then-bulletins-i
returns-then-bulletins-i c = grind (arith, common_steps, positions-length, position-at, ascends-not)

pub loop-i-preserved : goal.loop-i-preserved
loop-i-preserved c = grind (arith, common_steps, position-at, rise-more)

pub returns : goal.returns
returns c = grind (arith, common_steps, positions-length, ascends-from)
