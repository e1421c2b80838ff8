use Rattle.gts_count.proofs.SortedLemmas.{IsSorting}
use Rattle.gts_count.proofs.text.in_order.Given as goal

abbrev pub invariant-loop-key : goal.invariant-loop-key
invariant-loop-key l = IsSorting l.rows l.sorted l.key-iterator
