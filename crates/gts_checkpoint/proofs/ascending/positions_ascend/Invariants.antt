use Rattle.gts_checkpoint.proofs.Cited.{positions}
use Rattle.gts_checkpoint.proofs.AscendingLemmas.{RiseTo}
use Rattle.gts_checkpoint.proofs.ascending.positions_ascend.Given as goal

abbrev pub invariant-loop-i : goal.invariant-loop-i
invariant-loop-i l = RiseTo (positions l.bulletins) l.i
