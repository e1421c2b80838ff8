use Rattle.gts_replay.proofs.Cited.{◌≡◌, ◌++◌, ℕ, List, length}
use Rattle.gts_replay.specs.Going.{IsFed}
use Rattle.gts_replay.proofs.feeding.feed_piece.Given as goal

-- the bytes before the rest were dealt with
abbrev pub invariant-loop-rest : goal.invariant-loop-rest
invariant-loop-rest g l = record {
  fed : (bytes : List ℕ) × (l.fn.piece ≡ bytes ++ l.rest) × IsFed g.W.Switch.meanings l.c l.fn.decoder l.fn.switch bytes l.decoder l.switch;
  directory : g.W.Switch.meanings.directory l.switch ≡ g.W.Switch.meanings.directory l.fn.switch;
  disk : g.W.Switch.disk_faults l.switch ≡ g.W.Switch.disk_faults l.fn.switch;
  say : g.W.Switch.say_faults l.switch ≡ g.W.Switch.say_faults l.fn.switch;
}

abbrev pub decreases-loop-rest : goal.decreases-loop-rest
decreases-loop-rest g l = length l.rest
