use Rattle.gts_replay.proofs.Cited.{◌≡◌, List, length}
use Rattle.gts_connection.specs.Capture.{Step}
use Rattle.gts_replay.proofs.RunLemmas.{Runs}
use Rattle.gts_replay.proofs.replaying.run.Given as goal

-- so many steps were done
abbrev pub invariant-loop : goal.invariant-loop
invariant-loop g l = record {
  done : (steps : List Step) × (length steps ≡ l.counter) × Runs g.W.Switch.meanings l.fn.steps.kind g.S.Source.observed (g.S.Source.left l.fn.capture) l.fn.switch steps l.steps (g.S.Source.left l.capture) l.room.decoders.items l.switch;
  directory : g.W.Switch.meanings.directory l.switch ≡ g.W.Switch.meanings.directory l.fn.switch;
  disk : g.W.Switch.disk_faults l.switch ≡ g.W.Switch.disk_faults l.fn.switch;
  say : g.W.Switch.say_faults l.switch ≡ g.W.Switch.say_faults l.fn.switch;
  source : g.S.Source.faults l.capture ≡ g.S.Source.faults l.fn.capture;
}
