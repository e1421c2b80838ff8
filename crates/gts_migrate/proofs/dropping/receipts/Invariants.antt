use Rattle.gts_migrate.proofs.Cited.{◌≡◌, ◌++◌, drop, drop_receipts, need_of, receipts_from}
use Rattle.gts_migrate.proofs.dropping.receipts.Given as goal

abbrev pub invariant-loop-c : goal.invariant-loop-c
invariant-loop-c l =
    let n = need_of l.need in l.text.items ++ receipts_from l.c n.bulletins (drop l.c l.new.circuits) (drop l.c n.circuits) ≡ drop_receipts l.new n
