use Rattle.gts_accum.proofs.Cited.{◌≡◌, ◌≤◌, ◌<◌, ◌-◌, length, take, IsSound, Passes, left_ahead, unpacking_of}
use Rattle.gts_accum.specs.Unpacking.{IsAtEnd}
use Rattle.gts_accum.proofs.parts.UnpackedParts+ReadAhead+S.read.Given as goal

-- so many bytes were given
abbrev pub invariant-loop-count : goal.invariant-loop-count
invariant-loop-count g l = record {
  sound : IsSound l.self;
  circuit : l.self.circuit ≡ l.fn.self.circuit;
  passes : g.S.Source.observed → Passes (left_ahead g.S.Source.left) (unpacking_of l.fn.self) (unpacking_of l.self) (take l.count l.into);
  few : l.count ≤ length l.into;
  end : l.count ≡ 0 → 0 < length l.into → IsAtEnd (unpacking_of l.self);
  faults : g.S.Source.faults l.self.source.source ≡ g.S.Source.faults l.fn.self.source.source;
  failed : l.self.source.failed ≡ l.fn.self.source.failed;
}

abbrev pub decreases-loop-count : goal.decreases-loop-count
decreases-loop-count g l = length l.into - l.count
