use Rattle.gts_generate.proofs.Cited.{◌≡◌, ◌*◌, ◌-◌, ◌^◌, ◌≤◌, map, sum, take}
use Rattle.gts_generate.proofs.summing.draws_of.Given as goal

abbrev pub invariant-loop-circuit : goal.invariant-loop-circuit
invariant-loop-circuit l = record {
  total : l.draws ≡ sum (map (λ circuit. circuit.draws) (take l.circuit-index l.circuits));
  most : l.draws ≤ l.circuit-index * (2 ^ 64 - 1);
}
