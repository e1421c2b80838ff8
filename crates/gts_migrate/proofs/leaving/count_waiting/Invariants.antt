use Rattle.gts_migrate.proofs.Cited.{◌≡◌, ◌+◌, drop, left_behind, need_of, waiting_closed}
use Rattle.gts_migrate.proofs.leaving.count_waiting.Given as goal

abbrev pub invariant-loop-c : goal.invariant-loop-c
invariant-loop-c l = l.count + waiting_closed (drop l.c l.new.circuits) (drop l.c (need_of l.need).circuits) ≡ left_behind l.new (need_of l.need)
