use Rattle.gts_checkpoint.proofs.Cited.{◌≡◌, ℕ, map, take}
use Rattle.gts_checkpoint.specs.Sound.{has, is_held, circuit_need_of}
use Rattle.gts_checkpoint.proofs.sound.held_positions.Given as goal

abbrev pub invariant-loop-circuit : goal.invariant-loop-circuit
invariant-loop-circuit l = (p : ℕ) → has l.held.items p ≡ is_held (map circuit_need_of (take l.circuit-index l.circuits)) p
