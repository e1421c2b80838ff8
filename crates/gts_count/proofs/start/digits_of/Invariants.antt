use Rattle.gts_count.proofs.Cited.{◌≡◌, map, take}
use Rattle.gts_directory.specs.Directory.{Circuit}
use Rattle.gts_count.proofs.start.digits_of.Given as goal

abbrev pub invariant-loop-c : goal.invariant-loop-c
invariant-loop-c l = l.digits.items ≡ map (λ (row : Circuit). row.digits) (take l.c l.directory.circuits)
