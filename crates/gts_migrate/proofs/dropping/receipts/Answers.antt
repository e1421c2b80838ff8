use Rattle.gts_migrate.proofs.Cited.{◌∙◌, arith, append-nil, circuit_of_row, need_of, common_steps}
use Rattle.gts_migrate.proofs.DroppingLemmas.{receipts_next, receipts_end}
use Rattle.gts_migrate.proofs.dropping.receipts.Goals as goal

pub loop-c-preserved : goal.loop-c-preserved
loop-c-preserved c =
    let n = need_of c.args.need.now in
    let k = c.loop-c.c in
    receipts_next c.loop-c.text.items c.put_circuit.new.text.items n.bulletins c.args.new.now.circuits n.circuits k (circuit_of_row c.circuit.result.now) c.circuit.ensures.row c.in_ok-put_circuit.ensures
    ∙ c.loop-c.invariant

pub returns : goal.returns
returns c = grind (arith, common_steps, append-nil, receipts_end)
