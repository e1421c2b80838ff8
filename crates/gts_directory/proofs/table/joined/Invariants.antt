use Rattle.gts_directory.proofs.Cited.{◌≡◌, ℕ, ◌<◌, ◌^◌, max, length}
use Rattle.std.specs.Int.{bit_at}
use Rattle.gts_directory.specs.Table as table
use Rattle.gts_directory.proofs.table.joined.Given as goal

abbrev pub invariant-loop-left : goal.invariant-loop-left
invariant-loop-left l = record {
  below : l.left < 2 ^ length l.rules;
  rest : (k : ℕ) → max (bit_at l.set k) (table.joined l.rules l.left k) ≡ table.joined l.rules l.fits k;
}

abbrev pub decreases-loop-left : goal.decreases-loop-left
decreases-loop-left l = l.left
