use Rattle.gts_standby.proofs.Cited.{◌≡◌, ◌≤◌, ℕ, List, length}
use Rattle.gts_standby.specs.Reading.{HasRead}
use Rattle.gts_standby.specs.Taking as feeds
use Rattle.gts_standby.proofs.scanning.behind_all.Given as goal

-- so many were passed
abbrev pub invariant-loop-left : goal.invariant-loop-left
invariant-loop-left g l = record {
  gone : g.S.Source.observed → (fed : List ℕ) → HasRead fed l.fn.ahead (g.S.Source.left l.fn.source) → HasRead fed l.ahead (g.S.Source.left l.source);
  same : g.S.Source.observed → (fed : List ℕ) → HasRead fed l.fn.ahead (g.S.Source.left l.fn.source)
      → feeds.behind_all (feeds.behind_one l.listed l.limit fed) l.count l.initial.at ≡ feeds.behind_all (feeds.behind_one l.listed l.limit fed) l.left l.at;
  place : l.at ≤ l.limit;
  there : l.at ≤ length l.ahead.bytes;
  sound : g.S.Source.faults l.source ≡ g.S.Source.faults l.fn.source;
}

abbrev pub decreases-loop-left : goal.decreases-loop-left
decreases-loop-left g l = l.left
