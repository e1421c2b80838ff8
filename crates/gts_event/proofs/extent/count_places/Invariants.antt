use Rattle.gts_event.proofs.Cited.{◌≡◌, ◌-◌, ◌^◌, ◌++◌, length, take, flat_map, min}
use Rattle.gts_event.proofs.extent.count_places.Given as goal

abbrev pub invariant-loop-circuit : goal.invariant-loop-circuit
invariant-loop-circuit l = l.places ≡ min (length (flat_map (λ c. c.waiting ++ c.kept) (take l.circuit-index l.circuits))) (2 ^ 64 - 1)
