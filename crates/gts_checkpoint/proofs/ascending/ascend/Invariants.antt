use Rattle.gts_checkpoint.proofs.AscendingLemmas.{RiseTo}
use Rattle.gts_checkpoint.proofs.ascending.ascend.Given as goal

abbrev pub invariant-loop-i : goal.invariant-loop-i
invariant-loop-i l = RiseTo l.numbers l.i
