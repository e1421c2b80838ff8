use Rattle.gts_sender.proofs.Cited.{◌≡◌, ℕ, ◌++◌, List, length}
use Rattle.gts_sender.proofs.writing.write_all.Given as goal

-- a front was written, and the rest is left
abbrev pub invariant-loop-rest : goal.invariant-loop-rest
invariant-loop-rest g l = record {
  written : (bytes : List ℕ) × (l.fn.piece ≡ bytes ++ l.rest) × (g.K.Sink.observed → g.K.Sink.written l.sink ≡ g.K.Sink.written l.fn.sink ++ bytes);
  sound : g.K.Sink.faults l.sink ≡ g.K.Sink.faults l.fn.sink;
}

abbrev pub decreases-loop-rest : goal.decreases-loop-rest
decreases-loop-rest g l = length l.rest
