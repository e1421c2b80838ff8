use Rattle.gts_migrate.proofs.Cited.{◌≡◌, nat_lt, true, map, take, circuit_need_of, circuits_under, list_all, need_of}
use Rattle.gts_migrate.proofs.bringing.bring_each.Given as goal

abbrev pub invariant-loop-c : goal.invariant-loop-c
invariant-loop-c l = record {
  brought : map circuit_need_of l.circuits ≡ take l.c (circuits_under l.new l.old (need_of l.need));
  keeps : list_all (λ row. nat_lt 0 row.kept) (take l.c l.new.circuits) ≡ true;
}
