use Rattle.gts_standby.proofs.Cited.{◌≡◌, ◌+◌, Bool, cond, ap, ◌∙◌, arith}
use Rattle.gts_standby.proofs.ExitLemmas.{returned}
use Rattle.gts_standby.proofs.CompareLemmas.{far_on, far_stops, far_done}
use Rattle.gts_standby.proofs.comparing.compare_rest.Goals as goal

pub loop-station-preserved : goal.loop-station-preserved
loop-station-preserved g c =
    let inv = c.loop-station.invariant in
    let j = c.loop-station.own in
    let at_gate : c.used.result ≡ j.gate = c.used.ensures ∙ ap (λ (b : Bool). cond b (j.gate + 1) j.gate) inv.going in
    record {
      going = c.in_ok-size.ensures.goes.going;
      version = c.in_ok-size.ensures.goes.version ∙ inv.version;
      stands = c.in_ok-size.ensures.goes.stands;
      place = omega (arith, inv.place, c.in_ok-size.ensures.size);
      count = omega (arith, inv.count, c.in_ok-size.ensures.goes.rises);
      few = omega (arith, inv.count, at_gate, c.loop-station-test.true);
      further = omega (arith, inv.further);
      gone = λ observed told d left fed on read.
          let so = inv.gone observed told d left fed on read in
          far_on d _ _ c.args.end _ _ j c.compare_next.new.own c.loop-station.index c.loop-station.at c.in_ok-size.size _ _ _ _ so inv.version
          (c.in_ok-size.ensures.compared observed told d c.args.end so.rest so.fed so.on (omega (arith, at_gate, c.loop-station-test.true)) so.read);
      whole = λ told w. c.in_ok-size.ensures.whole told (inv.whole told w);
      told = λ observed. c.compare_next.ensures.told observed ∙ inv.told observed;
      sound = (c.in_ok-size.ensures.cause.sound tt).0 ∙ inv.sound;
      say = c.compare_next.ensures.cause.say ∙ inv.say;
      source_sound = (c.in_ok-size.ensures.cause.sound tt).1 ∙ inv.source_sound;
    }

pub returns-in_err-size-clause-compared : goal.returns-in_err-size-clause-compared
returns-in_err-size-clause-compared g c = λ observed told d left fed on read.
    let inv = c.loop-station.invariant in
    let j = c.loop-station.own in
    let at_gate : c.used.result ≡ j.gate = c.used.ensures ∙ ap (λ (b : Bool). cond b (j.gate + 1) j.gate) inv.going in
    let so = inv.gone observed told d left fed on read in
    rw (returned c.from_residual.result c.in_err-size.field-0.0 c.from_residual.ensures.1)
    (far_stops c.in_err-size.field-0.0 d _ _ c.args.end _ j c.loop-station.index c.loop-station.at _ _ _ so inv.version
    (c.in_err-size.ensures.compared observed told d c.args.end so.rest so.fed so.on (omega (arith, at_gate, c.loop-station-test.true)) so.read))

pub returns-clause-compared : goal.returns-clause-compared
returns-clause-compared g c = λ observed told d left fed on read.
    let inv = c.loop-station.invariant in
    let j = c.loop-station.own in
    let at_gate : c.used.result ≡ j.gate = c.used.ensures ∙ ap (λ (b : Bool). cond b (j.gate + 1) j.gate) inv.going in
    far_done d _ _ c.args.end _ j c.loop-station.index c.loop-station.at _ _ (inv.gone observed told d left fed on read) (omega (arith, at_gate, c.loop-station-test.false))
