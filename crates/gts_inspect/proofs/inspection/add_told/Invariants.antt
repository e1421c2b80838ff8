use Rattle.gts_inspect.proofs.Cited.{◌≡◌, ◌++◌, take, told}
use Rattle.gts_inspect.proofs.inspection.add_told.Given as goal

abbrev pub invariant-loop-look : goal.invariant-loop-look
invariant-loop-look l = l.found.items ≡ l.initial.found.items ++ told (take l.look-index l.looked)
