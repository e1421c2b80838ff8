use Rattle.gts_migrate.proofs.Cited.{◌≡◌, drop, first_waiting, need_of, waits_on_closed}
use Rattle.gts_migrate.proofs.leaving.check_waiting.Given as goal

abbrev pub invariant-loop-c : goal.invariant-loop-c
invariant-loop-c l = first_waiting l.c (drop l.c l.new.circuits) (drop l.c (need_of l.need).circuits) ≡ waits_on_closed l.new (need_of l.need)
