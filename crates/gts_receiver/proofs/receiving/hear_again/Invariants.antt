use Rattle.gts_receiver.proofs.Cited.{◌≡◌, ◌-◌, ◌≤◌, true, Err, Heard, Hears, MOST_TRIES, Seen, is_wanting}
use Rattle.gts_receiver.proofs.receiving.hear_again.Given as goal

-- whatever became of it before, it was tried again
abbrev pub invariant-loop-answer : goal.invariant-loop-answer
invariant-loop-answer g l = record {
  directory : (g.D.Desk.seen l.desk).directory ≡ (g.D.Desk.seen l.fn.desk).directory;
  tired : is_wanting l.answer ≡ true → l.tries ≤ (g.D.Desk.seen l.desk).turns;
  heard : (old : Seen) → Hears true (Heard l.fn.c l.fn.kind l.fn.message) (Err l.fn.first) old (g.D.Desk.seen l.fn.desk)
      → Hears true (Heard l.fn.c l.fn.kind l.fn.message) l.answer old (g.D.Desk.seen l.desk);
}

abbrev pub decreases-loop-answer : goal.decreases-loop-answer
decreases-loop-answer g l = MOST_TRIES - l.tries
