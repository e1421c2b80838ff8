use Rattle.gts_lock.proofs.Cited.{◌≡◌, ◌<◌}
use Rattle.gts_lock.specs.declared.limits.TheConstants.{MOST_TURNS}
use Rattle.gts_lock.proofs.hall.Hall.draw.Given as goal

abbrev pub invariant-loop : goal.invariant-loop
invariant-loop g l = (l.seat.table_id ≡ l.initial.seat.table_id) × (l.seat.me ≡ l.initial.seat.me) × (l.next < MOST_TURNS)
