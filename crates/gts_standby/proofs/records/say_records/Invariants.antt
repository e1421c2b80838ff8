use Rattle.gts_standby.proofs.Cited.{◌≡◌, ◌-◌, ℕ, false, List, Directory, GoesOnBehind, IsAtGate, StandsOn}
use Rattle.gts_standby.proofs.records.say_records.Given as goal

-- the records up to a gate were said
abbrev pub invariant-loop-station : goal.invariant-loop-station
invariant-loop-station g l = record {
  going : l.journal.ended ≡ false;
  stands : g.P.Station.observed → StandsOn (g.P.Station.calls l.station) l.journal;
  said : g.P.Station.observed → (d : Directory) (left : List ℕ) → IsAtGate d (g.P.Station.calls l.fn.station) l.fn.journal l.end left
      → GoesOnBehind d (g.P.Station.calls l.fn.station) (g.P.Station.calls l.station) l.journal l.end left;
  sound : g.P.Station.disk_faults l.station ≡ g.P.Station.disk_faults l.fn.station;
  say : g.P.Station.say_faults l.station ≡ g.P.Station.say_faults l.fn.station;
}

abbrev pub decreases-loop-station : goal.decreases-loop-station
decreases-loop-station g l = l.end - l.journal.gate
