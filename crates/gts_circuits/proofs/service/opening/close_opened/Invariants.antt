use Rattle.gts_circuits.proofs.Cited.{◌≡◌, ℕ, ◌<◌, ◌≤◌, ◌++◌, length, some, get_elem?, IsClosed, IsSame, Sockets, lines_seen}
use Rattle.gts_circuits.proofs.service.opening.close_opened.Given as goal

-- the circuits so far are closed, and the others are as they were
abbrev pub invariant-loop-both : goal.invariant-loop-both
invariant-loop-both g l = record {
  can : (goal.iterator-loop-both g).can_next l.both-iterator × (goal.iterator-loop-both g).is_finite l.both-iterator;
  split : l.yielded ++ l.both-iterator.rest.items ≡ l.fn.sockets.items;
  place : l.c ≡ length l.yielded;
  closed : (k : ℕ) (x : Sockets _ _) → k < l.c → get_elem? l.fn.sockets.items k ≡ some x
      → IsClosed g.L.In.Source g.L.Out.Sink
      (lines_seen g.L.Lines l.fn.lines) (lines_seen g.L.Lines l.lines) k x.source x.sink;
  others : (k : ℕ) → l.c ≤ k → IsSame (lines_seen g.L.Lines l.fn.lines) (lines_seen g.L.Lines l.lines) k;
}
