use Rattle.gts_circuits.proofs.Cited.{◌≡◌, ◌*◌, ◌≤◌, ◌++◌, length, vec_capacity}
use Rattle.gts_circuits.specs.Staff.{receivers_of, senders_of}
use Rattle.gts_circuits.proofs.workers.staffing.staff.Given as goal

-- two workers for each circuit so far, and two passes split off
abbrev pub invariant-loop-both : goal.invariant-loop-both
invariant-loop-both g l = record {
  can : (goal.iterator-loop-both g).can_next l.both-iterator × (goal.iterator-loop-both g).is_finite l.both-iterator;
  split : l.yielded ++ l.both-iterator.rest.items ≡ l.fn.sockets.items;
  circuit : l.circuit ≡ length l.yielded;
  pass : l.first ≡ record l.fn.first { parted = 2 * l.circuit };
  receivers : l.receivers.items ++ receivers_of l.hall l.circuit l.both-iterator.rest.items ≡ receivers_of l.hall 0 l.fn.sockets.items;
  senders : l.senders.items ++ senders_of l.hall l.circuit l.both-iterator.rest.items ≡ senders_of l.hall 0 l.fn.sockets.items;
  count : (length l.receivers.items ≡ l.circuit) × (length l.senders.items ≡ l.circuit);
  room : (2 * length l.fn.sockets.items ≤ vec_capacity l.receivers) × (length l.fn.sockets.items ≤ vec_capacity l.senders);
}
