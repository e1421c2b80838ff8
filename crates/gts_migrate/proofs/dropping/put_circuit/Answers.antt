use Rattle.gts_migrate.proofs.Cited.{ℕ, List, map, sym, subst, CanDrop, bulletin_of, need_of}
use Rattle.gts_event.specs.declared.values.Bulletin as values
use Rattle.gts_migrate.proofs.DroppingLemmas.{can_drop, waiting_same}
use Rattle.gts_migrate.proofs.dropping.put_circuit.Goals as goal

pub put_bulletins-requires : goal.put_bulletins-requires
put_bulletins-requires c =
    let n = need_of c.args.need.now in
    let w = waiting_same c.args.need.now c.as_slice.result.now c.args.c c.waiting_of-waiting.result.now c.as_slice.ensures c.waiting_of-waiting.ensures in
    subst (λ (l : List values.Bulletin). CanDrop (map bulletin_of l) c.waiting_of-waiting.result.now) (sym c.as_slice-2.ensures)
    (subst (λ (l : List ℕ). CanDrop n.bulletins l) (sym w) (can_drop n c.args.c c.requires))
