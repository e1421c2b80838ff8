use Rattle.std.proofs.Common.{◌≡◌}
use Rattle.gts_tcp.proofs.incoming.TcpIn.next_caller.Given as goal

-- nothing was counted
abbrev pub invariant-loop : goal.invariant-loop
invariant-loop g l = l.self.faults ≡ l.fn.self.faults
