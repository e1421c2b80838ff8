use Rattle.gts_inspect.proofs.Cited.{◌≡◌, drop}
use Rattle.gts_directory.specs.Directory as directory
use Rattle.gts_inspect.proofs.patterns.agrees.Given as goal

abbrev pub invariant-loop-i : goal.invariant-loop-i
invariant-loop-i l = directory.agrees (drop l.i l.pattern) (drop l.i l.text) ≡ directory.agrees l.pattern l.text
