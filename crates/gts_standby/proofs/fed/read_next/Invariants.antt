use Rattle.gts_standby.proofs.Cited.{◌≡◌, ℕ, true, cond, List, ◌+◌, ◌-◌, length, HasRead, LONGEST, tells_next}
use Rattle.gts_standby.proofs.fed.read_next.Given as goal

-- what was read and what the source has left are still the feed
abbrev pub invariant-loop-version : goal.invariant-loop-version
invariant-loop-version g l = record {
  kept : g.S.Source.observed → (fed : List ℕ) → HasRead fed l.fn.ahead (g.S.Source.left l.fn.source) → HasRead fed l.ahead (g.S.Source.left l.source);
  still : tells_next l.version l.fn.ahead ≡ true → (l.ahead ≡ l.fn.ahead) × (l.source ≡ l.fn.source);
  sound : g.S.Source.faults l.source ≡ g.S.Source.faults l.fn.source;
}

abbrev pub decreases-loop-version : goal.decreases-loop-version
decreases-loop-version g l = LONGEST - length l.ahead.bytes + cond l.ahead.is_all 0 1
