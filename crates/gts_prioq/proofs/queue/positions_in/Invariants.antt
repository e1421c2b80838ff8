use Rattle.gts_prioq.proofs.Cited.{◌≡◌, take, flat_map}
use Rattle.gts_prioq.specs.Queue.{items_of}
use Rattle.gts_prioq.proofs.queue.positions_in.Given as goal

abbrev pub invariant-loop-queue : goal.invariant-loop-queue
invariant-loop-queue l = l.positions.items ≡ flat_map items_of (take l.queue-index l.queues)
