use Rattle.gts_core.proofs.Cited.{◌≡◌, map, take, circuit_need_of}
use Rattle.gts_core.proofs.begin.holdings.Given as goal

abbrev pub invariant-loop-circuit : goal.invariant-loop-circuit
invariant-loop-circuit l = l.holdings.items ≡ map circuit_need_of (take l.circuit-index l.circuits)
