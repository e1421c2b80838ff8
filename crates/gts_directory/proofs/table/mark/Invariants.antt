use Rattle.gts_directory.proofs.Cited.{◌≡◌, ℕ, ◌<◌, ◌≤◌, slice_index}
use Rattle.gts_directory.specs.Table.{allows, marked}
use Rattle.gts_directory.proofs.table.mark.Given as goal

abbrev pub invariant-loop-cell : goal.invariant-loop-cell
invariant-loop-cell l = record {
  below : (c : ℕ) → c < l.cell → slice_index l.block c ≡ marked (slice_index l.initial.block c) l.bit (allows l.pattern c);
  above : (c : ℕ) → l.cell ≤ c → slice_index l.block c ≡ slice_index l.initial.block c;
}
