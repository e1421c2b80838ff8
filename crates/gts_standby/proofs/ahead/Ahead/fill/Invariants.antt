use Rattle.gts_standby.proofs.Cited.{◌≡◌, ℕ, cond, List, ◌+◌, ◌-◌, length}
use Rattle.gts_standby.specs.Reading.{HasRead}
use Rattle.gts_standby.proofs.ahead.Ahead.fill.Given as goal

-- what was read and what the source has left are still the feed
abbrev pub invariant-loop-self : goal.invariant-loop-self
invariant-loop-self g l = record {
  kept : g.S.Source.observed → (fed : List ℕ) → HasRead fed l.fn.self (g.S.Source.left l.fn.source) → HasRead fed l.self (g.S.Source.left l.source);
  sound : g.S.Source.faults l.source ≡ g.S.Source.faults l.fn.source;
}

abbrev pub decreases-loop-self : goal.decreases-loop-self
decreases-loop-self g l = l.want - length l.self.bytes + cond l.self.is_all 0 1
