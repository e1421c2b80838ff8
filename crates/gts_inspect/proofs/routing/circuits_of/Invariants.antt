use Rattle.gts_inspect.proofs.Cited.{◌≡◌, ◌==◌, bit_at, filter, range_with_len}
use Rattle.gts_inspect.proofs.routing.circuits_of.Given as goal

abbrev pub invariant-loop-circuit : goal.invariant-loop-circuit
invariant-loop-circuit l = l.circuits.items ≡ filter (λ c. bit_at l.fn.set c == 1) (range_with_len 0 l.circuit)
