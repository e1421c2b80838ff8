use Rattle.gts_replay.proofs.Cited.{◌≡◌, ◌-◌, ◌++◌, length}
use Rattle.gts_replay.proofs.steps.Steps.next.Given as goal

-- What is left is the same, however much of it was read ahead; nothing else changed.
abbrev pub invariant-loop-head : goal.invariant-loop-head
invariant-loop-head g l = record {
  told : g.S.Source.observed → l.self.ahead ++ g.S.Source.left l.source ≡ l.fn.self.ahead ++ g.S.Source.left l.fn.source;
  others : l.self ≡ record l.fn.self { ahead = l.self.ahead };
  sound : g.S.Source.faults l.source ≡ g.S.Source.faults l.fn.source;
}

abbrev pub decreases-loop-head : goal.decreases-loop-head
decreases-loop-head g l = 12 - length l.self.ahead
