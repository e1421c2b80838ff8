use Rattle.gts_inspect.proofs.Cited.{◌≡◌, map, take, circuit_of_row}
use Rattle.gts_inspect.proofs.inspection.circuit_rows.Given as goal

abbrev pub invariant-loop-c : goal.invariant-loop-c
invariant-loop-c l = map circuit_of_row l.rows.items ≡ take l.c l.directory.circuits
