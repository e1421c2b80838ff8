use Rattle.gts_circuits.proofs.Cited.{◌≡◌, ◌≤◌, ◌++◌, length, vec_capacity}
use Rattle.gts_circuits.specs.ServePassing.{incoming_of, outgoing_of}
use Rattle.gts_circuits.proofs.service.parting.part.Given as goal

-- the sockets of the lines so far
abbrev pub invariant-loop-line : goal.invariant-loop-line
invariant-loop-line g l = record {
  can : (goal.iterator-loop-line g).can_next l.line-iterator × (goal.iterator-loop-line g).is_finite l.line-iterator;
  split : l.yielded ++ l.line-iterator.rest.items ≡ l.fn.lines.items;
  incoming : l.incoming.items ≡ incoming_of l.yielded;
  outgoing : l.outgoing.items ≡ outgoing_of l.yielded;
  few : (length l.incoming.items ≤ length l.yielded) × (length l.outgoing.items ≤ length l.yielded);
  room : (length l.fn.lines.items ≤ vec_capacity l.incoming) × (length l.fn.lines.items ≤ vec_capacity l.outgoing);
}
