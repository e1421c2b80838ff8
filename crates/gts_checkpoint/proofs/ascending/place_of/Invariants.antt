use Rattle.gts_checkpoint.proofs.Cited.{ℕ, ◌<◌, ◌≤◌, ◌-◌, length, get_or, positions}
use Rattle.gts_checkpoint.proofs.ascending.place_of.Given as goal

abbrev pub invariant-loop-low : goal.invariant-loop-low
invariant-loop-low l = record {
  order : l.low ≤ l.high;
  within : l.high ≤ length l.bulletins;
  below : (k : ℕ) → k < l.low → get_or (positions l.bulletins) k 0 < l.position;
  above : (k : ℕ) → l.high ≤ k → k < length l.bulletins → l.position < get_or (positions l.bulletins) k 0;
}

abbrev pub decreases-loop-low : goal.decreases-loop-low
decreases-loop-low l = l.high - l.low
