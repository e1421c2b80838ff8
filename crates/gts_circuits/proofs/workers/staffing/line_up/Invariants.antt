use Rattle.gts_circuits.proofs.Cited.{◌≡◌, ◌+◌, ◌≤◌, ◌++◌, length, vec_capacity}
use Rattle.gts_circuits.proofs.workers.staffing.line_up.Given as goal

-- the senders so far stand behind the receivers
abbrev pub invariant-loop-sender : goal.invariant-loop-sender
invariant-loop-sender g l = record {
  can : (goal.iterator-loop-sender g).can_next l.sender-iterator × (goal.iterator-loop-sender g).is_finite l.sender-iterator;
  split : l.yielded ++ l.sender-iterator.rest.items ≡ l.fn.senders.items;
  items : l.workers.items ≡ l.fn.workers.items ++ l.yielded;
  room : length l.fn.workers.items + length l.fn.senders.items ≤ vec_capacity l.workers;
}
