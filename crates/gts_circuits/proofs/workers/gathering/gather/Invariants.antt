use Rattle.gts_circuits.proofs.Cited.{◌≡◌, ◌≤◌, ◌++◌, length, vec_capacity, Some}
use Rattle.gts_circuits.specs.Gathering.{AreGathered}
use Rattle.gts_circuits.proofs.workers.gathering.gather.Given as goal

-- the workers so far are gathered
abbrev pub invariant-loop-worker : goal.invariant-loop-worker
invariant-loop-worker g l = record {
  can : (goal.iterator-loop-worker g).can_next l.worker-iterator × (goal.iterator-loop-worker g).is_finite l.worker-iterator;
  split : l.yielded ++ l.worker-iterator.rest.items ≡ l.fn.workers.items;
  pass : (l.first.hall ≡ Some l.hall) × (l.first.name ≡ 0) × (l.first.parted ≡ l.fn.first.parted) × (l.first.own ≡ l.fn.first.own);
  joined : length l.first.joined ≡ length l.yielded;
  lines : length l.lines.items ≡ length l.yielded;
  room : length l.fn.workers.items ≤ vec_capacity l.lines;
  gathered : AreGathered g.B.Began.beginning g.S.Source g.K.Sink l.first l.lines.items (length l.yielded) l.fn.workers.items;
}
