use Rattle.gts_accum.proofs.Cited.{◌≡◌, ◌+◌, ◌++◌, ℕ, List, length, Call, Stands}
use Rattle.gts_accum.proofs.packing.take_piece.Given as goal

-- the bytes before the rest were taken
abbrev pub invariant-loop-rest : goal.invariant-loop-rest
invariant-loop-rest g l = record {
  taken : (done : List ℕ) × (l.fn.piece ≡ done ++ l.rest) × (l.at ≡ l.fn.start + length done)
      × ((first : List Call) (before : List ℕ) → Stands g.P.Station.observed first (g.P.Station.calls l.fn.station) before l.fn.decoder
      → Stands g.P.Station.observed first (g.P.Station.calls l.station) (before ++ done) l.decoder);
  sound : g.P.Station.say_faults l.station ≡ g.P.Station.say_faults l.fn.station;
  disk : g.P.Station.disk_faults l.station ≡ g.P.Station.disk_faults l.fn.station;
}

abbrev pub decreases-loop-rest : goal.decreases-loop-rest
decreases-loop-rest g l = length l.rest
