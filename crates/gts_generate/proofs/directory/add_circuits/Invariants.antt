use Rattle.gts_generate.proofs.Cited.{◌≡◌, ◌++◌, map}
use Rattle.std.specs.List.{range_with_len}
use Rattle.gts_generate.specs.Centre as centre
use Rattle.gts_generate.proofs.directory.add_circuits.Given as goal

abbrev pub invariant-loop-j : goal.invariant-loop-j
invariant-loop-j l = l.rows ≡ record (l.fn.rows) { circuits = l.fn.rows.circuits ++ map centre.circuit_row (range_with_len 0 l.j) }
