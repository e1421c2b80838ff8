use Rattle.gts_directory.proofs.Cited.{◌≡◌, drop}
use Rattle.gts_directory.specs.Faults as faults
use Rattle.gts_directory.proofs.checks.names_closed.Given as goal

abbrev pub invariant-loop-k : goal.invariant-loop-k
invariant-loop-k l = faults.names_closed l.fn.set l.k (drop l.k l.circuits) ≡ faults.names_closed l.fn.set 0 l.circuits
