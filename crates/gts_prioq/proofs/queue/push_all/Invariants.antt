use Rattle.gts_prioq.proofs.Cited.{◌≡◌, ◌++◌, take}
use Rattle.gts_prioq.proofs.queue.push_all.Given as goal

abbrev pub invariant-loop-i : goal.invariant-loop-i
invariant-loop-i l = l.positions.items ≡ l.fn.positions.items ++ take l.i l.queue.items
