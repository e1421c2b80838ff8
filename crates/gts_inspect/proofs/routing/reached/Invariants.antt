use Rattle.gts_inspect.proofs.Cited.{◌≡◌, fields_of, filter, is_reached, range_with_len}
use Rattle.gts_inspect.proofs.routing.reached.Given as goal

abbrev pub invariant-loop-circuit : goal.invariant-loop-circuit
invariant-loop-circuit l = l.circuits.items ≡ filter (is_reached l.directory (fields_of l.heading)) (range_with_len 0 l.circuit)
