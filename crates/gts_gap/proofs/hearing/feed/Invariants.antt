use Rattle.gts_gap.proofs.Cited.{◌≡◌, ℕ, List, length, IsFed, Takes}
use Rattle.gts_gap.proofs.hearing.feed.Given as goal

-- the bytes so far were taken and dealt with
abbrev pub invariant-loop-count : goal.invariant-loop-count
invariant-loop-count g l = record {
  fed : (bytes : List ℕ) × Takes g.S.Source.observed bytes l.fn.steps l.steps (g.S.Source.left l.fn.capture) (g.S.Source.left l.capture)
      × IsFed l.c l.fn.decoder l.fn.table bytes l.decoder l.table;
  circuits : length l.table ≡ length l.fn.table;
  sound : g.S.Source.faults l.capture ≡ g.S.Source.faults l.fn.capture;
}

abbrev pub decreases-loop-count : goal.decreases-loop-count
decreases-loop-count g l = l.steps.feed
