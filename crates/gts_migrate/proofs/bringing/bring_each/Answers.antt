use Rattle.gts_migrate.proofs.Cited.{◌<◌, List, map, length, ap, ◌∙◌, arith, take_all, circuit_need_of, circuit_of_row, circuits_under, need_of}
use Rattle.gts_event.specs.declared.values.CircuitNeed as values
use Rattle.gts_migrate.proofs.BringingLemmas.{length-under, one_more, keep_more}
use Rattle.gts_migrate.proofs.bringing.bring_each.Goals as goal

pub loop-c-preserved : goal.loop-c-preserved
loop-c-preserved c =
    let old = c.args.old.now in
    let new = c.args.new.now in
    let n = need_of c.args.need.now in
    let k = c.loop-c.c in
    let long = length-under new old n in
    let low : k < length new.circuits = omega (arith, c.loop-c-test.true, c.circuits-c-end.ensures.value) in
    record {
      brought =
          ap (λ (cs : List values.CircuitNeed). map circuit_need_of cs) c.in_ok-push.ensures.ok
          ∙ one_more c.loop-c.circuits c.in_ok-circuit.circuit (circuits_under new old n) k c.loop-c.invariant.brought (omega (arith, low, long)) c.in_ok-circuit.ensures;
      keeps = keep_more new.circuits k (circuit_of_row c.circuit.result.now) c.circuit.ensures.row low (omega (arith, c.circuit.ensures.kept.0)) c.loop-c.invariant.keeps;
    }

pub returns-clause-circuits : goal.returns-clause-circuits
returns-clause-circuits c =
    let old = c.args.old.now in
    let new = c.args.new.now in
    let n = need_of c.args.need.now in
    let long = length-under new old n in
    c.loop-c.invariant.brought
    ∙ take_all c.loop-c.c (circuits_under new old n) (omega (arith, long, c.loop-c-test.false, c.circuits-c-end.ensures.value))
