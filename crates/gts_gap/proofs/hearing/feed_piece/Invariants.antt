use Rattle.gts_gap.proofs.Cited.{◌≡◌, ◌++◌, ℕ, List, length}
use Rattle.gts_gap.specs.Counting.{IsFed}
use Rattle.gts_gap.proofs.hearing.feed_piece.Given as goal

-- the bytes before the rest were dealt with
abbrev pub invariant-loop-rest : goal.invariant-loop-rest
invariant-loop-rest l = record {
  fed : (bytes : List ℕ) × (l.fn.piece ≡ bytes ++ l.rest) × IsFed l.c l.fn.decoder l.fn.table bytes l.decoder l.table;
  circuits : length l.table ≡ length l.fn.table;
}

abbrev pub decreases-loop-rest : goal.decreases-loop-rest
decreases-loop-rest l = length l.rest
