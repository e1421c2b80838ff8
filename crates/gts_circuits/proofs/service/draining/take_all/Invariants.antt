use Rattle.gts_circuits.proofs.Cited.{◌≡◌, ℕ, ◌++◌, List, TakesSome}
use Rattle.gts_circuits.proofs.service.draining.take_all.Given as goal

-- the frame of each take was written
abbrev pub invariant-loop : goal.invariant-loop
invariant-loop g l = record {
  directory : l.housed.engine.directory ≡ l.fn.housed.engine.directory;
  taken : (bytes : List ℕ)
      × TakesSome g.P.Station g.B.Began.beginning l.fn.c bytes l.fn.housed.engine l.housed.engine
      × (g.K.Sink.observed → g.K.Sink.written l.sink ≡ g.K.Sink.written l.fn.sink ++ bytes);
  sound : g.K.Sink.faults l.sink ≡ g.K.Sink.faults l.fn.sink;
  can : (goal.iterator-loop g).can_next l.iterator' × (goal.iterator-loop g).is_finite l.iterator';
}
