use Rattle.gts_circuits.proofs.Cited.{◌≡◌, ◌⊎◌, ℕ, ◌<◌, ◌≤◌, ◌++◌, List, length, vec_len, some, get_elem?, Incoming, IsClosed, IsSame, Outgoing, ends_of, first_fault, lines_seen}
use Rattle.gts_circuits.proofs.service.closing.close_all.Given as goal

-- the last circuits are closed, and the others are as they were
abbrev pub invariant-loop-to : goal.invariant-loop-to
invariant-loop-to g l = record {
  pairs : length l.incoming.items ≡ length l.outgoing.items;
  behind : (from : List (Incoming _)) × (to : List (Outgoing _)) × (l.incoming.items ++ from ≡ l.fn.incoming.items) × (l.outgoing.items ++ to ≡ l.fn.outgoing.items)
      × (l.end ≡ first_fault (length l.outgoing.items) (ends_of from to));
  closed : (k : ℕ) (x : Incoming _) (y : Outgoing _) → length l.outgoing.items ≤ k → get_elem? l.fn.incoming.items k ≡ some x → get_elem? l.fn.outgoing.items k ≡ some y
      → IsClosed g.L.In.Source g.L.Out.Sink
      (lines_seen g.L.Lines l.fn.lines) (lines_seen g.L.Lines l.lines) k x.source y.sink;
  others : (k : ℕ) → (k < length l.outgoing.items) ⊎ (length l.fn.outgoing.items ≤ k)
      → IsSame (lines_seen g.L.Lines l.fn.lines) (lines_seen g.L.Lines l.lines) k;
}

abbrev pub decreases-loop-to : goal.decreases-loop-to
decreases-loop-to g l = vec_len l.outgoing
