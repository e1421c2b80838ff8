use Rattle.gts_accum.specs.Ahead.{left_ahead}
use Rattle.gts_accum.proofs.Cited.{◌≡◌, ◌+◌, ◌≤◌, [], length, ENTRY_HEAD, Head, IsSound, Passes, missing, unpacking_of}
use Rattle.gts_accum.specs.Cited.{IsPast}
use Rattle.gts_accum.proofs.parts.UnpackedParts+ReadAhead+S.fill.Given as goal

abbrev pub invariant-loop-self : goal.invariant-loop-self
invariant-loop-self g l = record {
  sound : IsSound l.self;
  given : l.self.next ≡ Head → l.self.given ≡ length l.self.made;
  past : (l.self.next ≡ Head → ⊥) → l.self.given ≡ length l.self.made → IsPast l.self.next;
  circuit : l.self.circuit ≡ l.fn.self.circuit;
  passes : g.S.Source.observed → Passes (left_ahead g.S.Source.left) (unpacking_of l.fn.self) (unpacking_of l.self) [];
  apart : ENTRY_HEAD ≤ l.fn.self.held + length l.fn.self.source.held
      → (l.self.source.source ≡ l.fn.self.source.source) × (l.self.next ≡ Head → ENTRY_HEAD ≤ l.self.held + length l.self.source.held);
  failed : l.self.source.failed ≡ l.fn.self.source.failed;
  steady : g.S.Source.faults l.self.source.source ≡ g.S.Source.faults l.fn.self.source.source;
}

abbrev pub decreases-loop-self : goal.decreases-loop-self
decreases-loop-self g l = missing l.self.next l.self.held
