use Rattle.gts_core.proofs.Cited.{◌≡◌, ◌-◌, ◌^◌, length, flat_map, take, min, bulletins_in}
use Rattle.gts_core.proofs.needs.extent_at.Given as goal

abbrev pub invariant-loop-position : goal.invariant-loop-position
invariant-loop-position l =
    (l.bulletins ≡ min (length (bulletins_in l.store (take l.position-index l.positions))) (2 ^ 64 - 1))
    × (l.bodies ≡ min (length (flat_map (λ b. b.body) (bulletins_in l.store (take l.position-index l.positions)))) (2 ^ 64 - 1))
