use Rattle.gts_standby.proofs.Cited.{◌≡◌, ◌-◌, ◌≤◌, take, drop, SaysHere, seen}
use Rattle.gts_standby.proofs.piece.say_part.Given as goal

-- the bytes up to a place were said
abbrev pub invariant-loop-at : goal.invariant-loop-at
invariant-loop-at g l = record {
  begun : l.from ≤ l.at;
  inside : l.at ≤ l.to;
  says : g.P.Station.observed → SaysHere (g.P.Station.calls l.fn.station) (g.P.Station.calls l.station) (take (l.at - l.from) (drop l.from (seen (g.P.Station.calls l.fn.station) l.file)));
  sound : g.P.Station.disk_faults l.station ≡ g.P.Station.disk_faults l.fn.station;
  say : g.P.Station.say_faults l.station ≡ g.P.Station.say_faults l.fn.station;
}

abbrev pub decreases-loop-at : goal.decreases-loop-at
decreases-loop-at g l = l.to - l.at
