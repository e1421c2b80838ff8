use Rattle.gts_standby.proofs.Cited.{◌≡◌, ◌+◌, Bool, cond, ap, ◌∙◌, arith}
use Rattle.gts_standby.proofs.ExitLemmas.{returned}
use Rattle.gts_standby.proofs.ShipLemmas.{one_more, broken_off, said_all}
use Rattle.gts_standby.proofs.records.say_records.Goals as goal

pub loop-station-preserved : goal.loop-station-preserved
loop-station-preserved g c =
    let inv = c.loop-station.invariant in
    let j = c.loop-station.journal in
    let at_gate : c.used.result ≡ j.gate = c.used.ensures ∙ ap (λ (b : Bool). cond b (j.gate + 1) j.gate) inv.going in
    record {
      going = c.in_ok-say_next.ensures.going;
      stands = c.in_ok-say_next.ensures.stands;
      said = λ observed d left at.
          let first = inv.said observed d left at in
          one_more d (g.P.Station.calls c.args.station.now) (g.P.Station.calls c.loop-station.station) (g.P.Station.calls c.say_next.new.station) j c.say_next.new.journal c.args.end left first
          (c.in_ok-say_next.ensures.said observed d c.args.end first.rest first.at (omega (arith, at_gate, c.loop-station-test.true)));
      sound = c.in_ok-say_next.ensures.cause.sound.0 ∙ inv.sound;
      say = c.in_ok-say_next.ensures.cause.sound.1 ∙ inv.say;
    }

pub returns-in_err-say_next-clause-said : goal.returns-in_err-say_next-clause-said
returns-in_err-say_next-clause-said g c = λ observed d left at.
    let inv = c.loop-station.invariant in
    let j = c.loop-station.journal in
    let at_gate : c.used.result ≡ j.gate = c.used.ensures ∙ ap (λ (b : Bool). cond b (j.gate + 1) j.gate) inv.going in
    let first = inv.said observed d left at in
    let broke = c.in_err-say_next.ensures.said observed d c.args.end first.rest first.at (omega (arith, at_gate, c.loop-station-test.true)) in
    rw (returned c.from_residual.result c.in_err-say_next.field-0.0 c.from_residual.ensures.1)
    (broke.0, broken_off d (g.P.Station.calls c.args.station.now) (g.P.Station.calls c.loop-station.station) (g.P.Station.calls c.say_next.new.station) j c.args.end left first broke.1)

pub returns-clause-said : goal.returns-clause-said
returns-clause-said g c = λ observed d left at.
    let inv = c.loop-station.invariant in
    let j = c.loop-station.journal in
    let at_gate : c.used.result ≡ j.gate = c.used.ensures ∙ ap (λ (b : Bool). cond b (j.gate + 1) j.gate) inv.going in
    said_all d (g.P.Station.calls c.args.station.now) (g.P.Station.calls c.loop-station.station) j c.args.end left (inv.said observed d left at) (omega (arith, at_gate, c.loop-station-test.false))
