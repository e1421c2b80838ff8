use Rattle.gts_checkpoint.proofs.Cited.{◌≡◌, ℕ, ◌<◌, true, slice_get, Some, is_circuit_sound}
use Rattle.gts_event.specs.declared.values.CircuitNeed.{CircuitNeed}
use Rattle.gts_checkpoint.specs.Sound.{Circuit, circuit_need_of, need_of}
use Rattle.gts_checkpoint.proofs.sound.are_circuits_sound.Given as goal

abbrev pub invariant-loop-c : goal.invariant-loop-c
invariant-loop-c l =
    (k : ℕ) (row : Circuit) (q : CircuitNeed) → k < l.c → slice_get l.directory.circuits k ≡ Some row → slice_get l.circuits k ≡ Some q
    → is_circuit_sound (need_of l.need) row.kept (circuit_need_of q) ≡ true
