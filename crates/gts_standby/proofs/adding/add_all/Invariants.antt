use Rattle.gts_standby.proofs.Cited.{◌≡◌, ◌+◌, ◌-◌, ◌^◌, ◌≤◌, ℕ, List, length, HasRead, HoldsAt, IsGathering, IsWhole, State, gate_behind, said_by, written}
use Rattle.gts_standby.specs.Taking as feeds
use Rattle.gts_standby.proofs.GoneLemmas.{HasGone}
use Rattle.gts_standby.proofs.adding.add_all.Given as goal

-- some records were added, and some gathered
abbrev pub invariant-loop-end : goal.invariant-loop-end
invariant-loop-end g l = record {
  gathering : IsGathering g.P.Station.observed l.directory (g.P.Station.calls l.station) l.core l.gathering;
  place : l.at ≤ 2 ^ 62 + gate_behind l.gathering;
  gone : g.P.Station.observed → g.S.Source.observed → (s : State) (fed : List ℕ) (n : ℕ)
      → HoldsAt g.P.Station.observed l.directory s (g.P.Station.calls l.fn.station) l.fn.standby.core l.fn.standby.journal
      → HasRead fed l.fn.ahead (g.S.Source.left l.fn.source) → length fed ≤ n
      → HasGone g.P.Station.observed l.directory s (l.fn.standby.journal.gate + 1) l.fn.standby.journal.seal
      (feeds.add_all written l.directory n l.fn.standby.journal.seal s l.fn.standby.journal.gate l.fn.at fed)
      (g.P.Station.calls l.fn.station) (g.P.Station.calls l.station) l.core l.gathering l.at l.ahead (g.S.Source.left l.source);
  whole : g.S.Source.observed → IsWhole l.fn.ahead (g.S.Source.left l.fn.source) → IsWhole l.ahead (g.S.Source.left l.source);
  silent : g.P.Station.observed → said_by (g.P.Station.calls l.station) ≡ said_by (g.P.Station.calls l.fn.station);
  sound : g.P.Station.disk_faults l.station ≡ g.P.Station.disk_faults l.fn.station;
  source_sound : g.S.Source.faults l.source ≡ g.S.Source.faults l.fn.source;
  say : g.P.Station.say_faults l.station ≡ g.P.Station.say_faults l.fn.station;
}

abbrev pub decreases-loop-end : goal.decreases-loop-end
decreases-loop-end g l = l.directory.limit - gate_behind l.gathering
