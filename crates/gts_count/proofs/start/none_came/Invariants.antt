use Rattle.gts_count.proofs.Cited.{◌≡◌, replicate}
use Rattle.gts_count.proofs.start.none_came.Given as goal

abbrev pub invariant-loop : goal.invariant-loop
invariant-loop l = l.came.items ≡ replicate l.counter 0
