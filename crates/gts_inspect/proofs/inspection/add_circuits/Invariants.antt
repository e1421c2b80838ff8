use Rattle.gts_inspect.proofs.Cited.{◌≡◌, ◌++◌, map, take, circuit_of_row, in_order, of_circuit}
use Rattle.gts_inspect.proofs.inspection.add_circuits.Given as goal

abbrev pub invariant-loop-circuit : goal.invariant-loop-circuit
invariant-loop-circuit l =
    l.found.items ≡ l.initial.found.items ++ in_order (of_circuit l.directory) 0 (map circuit_of_row (take l.circuit l.circuits))
