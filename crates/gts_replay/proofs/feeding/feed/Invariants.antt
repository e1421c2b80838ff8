use Rattle.gts_replay.proofs.Cited.{◌≡◌, ℕ, List, IsFed, Takes}
use Rattle.gts_replay.proofs.feeding.feed.Given as goal

-- the bytes so far were taken and dealt with
abbrev pub invariant-loop-count : goal.invariant-loop-count
invariant-loop-count g l = record {
  fed : (bytes : List ℕ) × Takes g.S.Source.observed bytes l.fn.steps l.steps (g.S.Source.left l.fn.capture) (g.S.Source.left l.capture)
      × IsFed g.W.Switch.meanings l.c l.fn.decoder l.fn.switch bytes l.decoder l.switch;
  directory : g.W.Switch.meanings.directory l.switch ≡ g.W.Switch.meanings.directory l.fn.switch;
  disk : g.W.Switch.disk_faults l.switch ≡ g.W.Switch.disk_faults l.fn.switch;
  say : g.W.Switch.say_faults l.switch ≡ g.W.Switch.say_faults l.fn.switch;
  source : g.S.Source.faults l.capture ≡ g.S.Source.faults l.fn.capture;
}

abbrev pub decreases-loop-count : goal.decreases-loop-count
decreases-loop-count g l = l.steps.feed
