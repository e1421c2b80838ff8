use Rattle.gts_standby.proofs.Cited.{◌≡◌, ◌+◌, ◌-◌, ◌*◌, ◌^◌, ◌≤◌, ℕ, false, List, Directory, HasRead, IsAtSeals, IsWhole, StandsOn, compare_all}
use Rattle.gts_standby.proofs.CompareLemmas.{HasGoneFar}
use Rattle.gts_standby.proofs.comparing.compare_rest.Given as goal

-- so many records were compared
abbrev pub invariant-loop-station : goal.invariant-loop-station
invariant-loop-station g l = record {
  going : l.own.ended ≡ false;
  version : l.own.version ≡ l.fn.own.version;
  stands : g.P.Station.observed → StandsOn (g.P.Station.calls l.station) l.own;
  place : l.at ≤ 2 ^ 32 + l.index * 2 ^ 20;
  count : l.index ≤ l.own.gate + 1;
  few : l.index ≤ l.end + 1;
  further : 1 ≤ l.index;
  gone : g.P.Station.observed → g.S.Source.observed → (d : Directory) (left : List (List ℕ)) (fed : List ℕ)
      → IsAtSeals d (g.P.Station.calls l.fn.station) l.fn.own l.end left → HasRead fed l.fn.ahead (g.S.Source.left l.fn.source)
      → HasGoneFar d l.fn.own.version (λ behind. compare_all l.fn.own.version behind left l.fn.own.seal 1 l.initial.at fed) l.end
      (g.P.Station.calls l.station) l.own l.index l.at l.ahead (g.S.Source.left l.source);
  whole : g.S.Source.observed → IsWhole l.fn.ahead (g.S.Source.left l.fn.source) → IsWhole l.ahead (g.S.Source.left l.source);
  told : g.P.Station.observed → g.P.Station.calls l.station ≡ g.P.Station.calls l.fn.station;
  sound : g.P.Station.disk_faults l.station ≡ g.P.Station.disk_faults l.fn.station;
  say : g.P.Station.say_faults l.station ≡ g.P.Station.say_faults l.fn.station;
  source_sound : g.S.Source.faults l.source ≡ g.S.Source.faults l.fn.source;
}

abbrev pub decreases-loop-station : goal.decreases-loop-station
decreases-loop-station g l = l.end - l.own.gate
