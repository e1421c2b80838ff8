use Rattle.gts_directory.specs.Faults as faults
use Rattle.gts_directory.proofs.RowLemmas.{IsSoundBelow}
use Rattle.gts_directory.proofs.checks.closed_circuit.Given as goal

abbrev pub invariant-loop-row : goal.invariant-loop-row
invariant-loop-row l = IsSoundBelow (faults.closed_circuit l.circuits) l.rules l.row
