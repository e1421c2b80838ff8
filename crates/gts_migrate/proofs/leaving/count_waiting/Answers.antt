use Rattle.gts_migrate.proofs.Cited.{arith, circuit_of_row, need_of, common_steps}
use Rattle.gts_migrate.proofs.LettingGoLemmas.{closed_here, closed_open, waiting_there}
use Rattle.gts_migrate.proofs.leaving.count_waiting.Goals as goal
use Rattle.gts_migrate.proofs.leaving.count_waiting.Goals.{then-circuit, else-circuit}

pub overflow_add-count : goal.overflow_add-count
overflow_add-count c = grind (arith, common_steps, waiting_there, closed_here)

pub loop-c-preserved : goal.loop-c-preserved
loop-c-preserved c =
    let n = need_of c.args.need.now in
    let k = c.loop-c.c in
    let row = circuit_of_row c.circuit.result.now in
    elim c.if-circuit.branch [
      | then-circuit w ↦
          let count = waiting_there c.args.need.now c.as_slice-circuits.result.now k w.waiting_on-count.result c.as_slice-circuits.ensures w.waiting_on-count.ensures in
          let here = closed_here c.args.new.now.circuits n.circuits k row c.circuit.ensures.row w.if-circuit.true in
          omega (arith, count, here, c.loop-c.invariant, w.count-is)
      | else-circuit w ↦
          let here = closed_open c.args.new.now.circuits n.circuits k row c.circuit.ensures.row w.if-circuit.false in
          omega (arith, here, c.loop-c.invariant, w.count-is)
    ]
