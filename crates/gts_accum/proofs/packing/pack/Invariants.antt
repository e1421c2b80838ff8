use Rattle.gts_accum.proofs.Cited.{◌≡◌, ◌≤◌, ◌-◌, ◌++◌, ℕ, List, length, LONGEST_STREAM, Stands}
use Rattle.gts_accum.proofs.packing.pack.Given as goal

-- the bytes so far were taken
abbrev pub invariant-loop-decoder : goal.invariant-loop-decoder
invariant-loop-decoder g l = record {
  taken : (bytes : List ℕ) × (g.S.Source.observed → g.S.Source.left l.fn.stream ≡ bytes ++ g.S.Source.left l.stream) × (l.at ≡ length bytes)
      × Stands g.P.Station.observed (g.P.Station.calls l.fn.station) (g.P.Station.calls l.station) bytes l.decoder;
  short : l.at ≤ LONGEST_STREAM;
  read : g.S.Source.faults l.stream ≡ g.S.Source.faults l.fn.stream;
  say : g.P.Station.say_faults l.station ≡ g.P.Station.say_faults l.fn.station;
  disk : g.P.Station.disk_faults l.station ≡ g.P.Station.disk_faults l.fn.station;
}

abbrev pub decreases-loop-decoder : goal.decreases-loop-decoder
decreases-loop-decoder g l = LONGEST_STREAM - l.at
