use Rattle.gts_migrate.proofs.Cited.{◌≡◌, Option, Some, ℕ, Err, length, get_or, refl, sym, subst, ◌∙◌, arith, TellsWaiting, Waits, circuit_of_row, need_of, unused, common_steps}
use Rattle.gts_migrate.proofs.LettingGoLemmas.{found_here, found_open, found_none, waiting_there}
use Rattle.gts_migrate.proofs.leaving.check_waiting.Goals as goal
use Rattle.gts_migrate.proofs.leaving.check_waiting.Goals.{else-circuit-via-then-circuit+else-count-gt0, else-circuit-via-else-circuit}

told : (c count : ℕ) (found : Option (ℕ × ℕ)) → found ≡ Some (c, count) → TellsWaiting {T = Unit {0}} (Err (Waits c count)) found
told c count found is = subst (λ (f : Option (ℕ × ℕ)). TellsWaiting {T = Unit {0}} (Err (Waits c count)) f) (sym is) refl

pub returns-then-count-gt0 : goal.returns-then-count-gt0
returns-then-count-gt0 c = grind (arith, common_steps, waiting_there, found_here, told)

pub loop-c-preserved : goal.loop-c-preserved
loop-c-preserved c =
    let n = need_of c.args.need.now in
    let k = c.loop-c.c in
    let row = circuit_of_row c.circuit.result.now in
    let count : c.waiting_on-count.result ≡ length (get_or n.circuits k unused).waiting = waiting_there c.args.need.now c.as_slice-circuits.result.now k c.waiting_on-count.result c.as_slice-circuits.ensures c.waiting_on-count.ensures in
    elim c.else-circuit.branch [
      | else-circuit-via-then-circuit+else-count-gt0 w ↦
          sym (found_none c.args.new.now.circuits n.circuits k row c.circuit.ensures.row (omega (arith, count, w.if-count-gt0.false))) ∙ c.loop-c.invariant
      | else-circuit-via-else-circuit w ↦ sym (found_open c.args.new.now.circuits n.circuits k row c.circuit.ensures.row w.if-circuit.false) ∙ c.loop-c.invariant
    ]
