use Rattle.gts_count.proofs.Cited.{◌≡◌, [], map, take, All, Circuit, IsRing, buffer}
use Rattle.gts_count.proofs.start.no_draws.Given as goal

abbrev pub invariant-loop-c : goal.invariant-loop-c
invariant-loop-c l = (l.rings.items ≡ map (λ (row : Circuit). buffer [] row.kept) (take l.c l.directory.circuits)) × All IsRing l.rings.items
