use Rattle.gts_event.proofs.Cited.{◌≡◌, ◌-◌, ◌^◌, length, take, flat_map, min}
use Rattle.gts_event.proofs.extent.count_bodies.Given as goal

abbrev pub invariant-loop-bulletin : goal.invariant-loop-bulletin
invariant-loop-bulletin l = l.bytes ≡ min (length (flat_map (λ b. b.body) (take l.bulletin-index l.bulletins))) (2 ^ 64 - 1)
