use Rattle.gts_directory.proofs.Cited.{◌≡◌, drop}
use Rattle.gts_directory.specs.Table as table
use Rattle.gts_directory.proofs.table.meet.Given as goal

abbrev pub invariant-loop-cell : goal.invariant-loop-cell
invariant-loop-cell l = table.meet l.block (drop l.cell-index l.cells) l.left ≡ table.meet l.block l.cells l.rules
