use Rattle.gts_replay.proofs.Cited.{◌≡◌, ◌-◌, ◌^◌, ℕ, List, Entry, StandsFor}
use Rattle.gts_replay.proofs.DrainLemmas.{Drained}
use Rattle.gts_replay.proofs.draining.drain.Given as goal

-- so many takes gave something
abbrev pub invariant-loop : goal.invariant-loop
invariant-loop g l = record {
  drained : (o : g.W.Switch.Origin) (first : ℕ) (h : List Entry) → StandsFor g.W.Switch.meanings o first h l.fn.switch → Drained g.W.Switch.meanings l.fn.switch o first h l.c l.counter l.switch;
  directory : g.W.Switch.meanings.directory l.switch ≡ g.W.Switch.meanings.directory l.fn.switch;
  disk : g.W.Switch.disk_faults l.switch ≡ g.W.Switch.disk_faults l.fn.switch;
  say : g.W.Switch.say_faults l.switch ≡ g.W.Switch.say_faults l.fn.switch;
}

abbrev pub decreases-loop : goal.decreases-loop
decreases-loop g l = 2 ^ 128 - 1 - l.counter
