use Rattle.gts_checkpoint.proofs.Cited.{◌≡◌, true, map, take, circuit_need_of, is_needed, list_all}
use Rattle.gts_checkpoint.proofs.sound.are_needed.Given as goal

abbrev pub invariant-loop-bulletin : goal.invariant-loop-bulletin
invariant-loop-bulletin l =
    list_all (λ b. is_needed l.directory l.need.accepted (map circuit_need_of l.need.circuits) b.position) (take l.bulletin-index l.bulletin-items) ≡ true
