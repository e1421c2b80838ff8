use Rattle.gts_standby.proofs.Cited.{◌≡◌, ◌-◌, ℕ, false, List, Option, Directory, IsBefore, IsWithin, StandsOn}
use Rattle.gts_standby.proofs.since.pass_records.Given as goal

-- the records up to a gate were passed over
abbrev pub invariant-loop-station : goal.invariant-loop-station
invariant-loop-station g l = record {
  going : l.journal.ended ≡ false;
  version : l.journal.version ≡ l.fn.journal.version;
  stands : g.P.Station.observed → StandsOn (g.P.Station.calls l.station) l.journal;
  passed : g.P.Station.observed → (d : Directory) (end place : ℕ) (last : List ℕ) (found : Option (List ℕ))
      → IsBefore d (g.P.Station.calls l.fn.station) l.fn.journal end place last found → IsWithin l.stop l.fn.journal end place
      → IsBefore d (g.P.Station.calls l.station) l.journal end place last found;
  told : g.P.Station.observed → g.P.Station.calls l.station ≡ g.P.Station.calls l.fn.station;
  sound : g.P.Station.disk_faults l.station ≡ g.P.Station.disk_faults l.fn.station;
  say : g.P.Station.say_faults l.station ≡ g.P.Station.say_faults l.fn.station;
}

abbrev pub decreases-loop-station : goal.decreases-loop-station
decreases-loop-station g l = l.stop - l.journal.gate
