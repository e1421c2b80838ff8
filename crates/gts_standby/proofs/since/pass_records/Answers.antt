use Rattle.gts_standby.proofs.Cited.{◌≡◌, ◌+◌, Bool, cond, ap, ◌∙◌, arith, file_of, ship_fault, common_steps}
use Rattle.gts_standby.proofs.ExitLemmas.{returned}
use Rattle.gts_standby.proofs.ShipLemmas.{quiet_passed}
use Rattle.gts_standby.proofs.SinceLemmas.{before_on, comes_to_end}
use Rattle.gts_standby.proofs.since.pass_records.Goals as goal

pub loop-station-preserved : goal.loop-station-preserved
loop-station-preserved g c = grind (arith, common_steps, before_on)

pub returns-in_err-pass_next-clause-passed : goal.returns-in_err-pass_next-clause-passed
returns-in_err-pass_next-clause-passed g c = λ observed d end place last found it within.
    let inv = c.loop-station.invariant in
    let j = c.loop-station.journal in
    let at_gate : c.used.result ≡ j.gate = c.used.ensures ∙ ap (λ (b : Bool). cond b (j.gate + 1) j.gate) inv.going in
    let calls = g.P.Station.calls c.loop-station.station in
    let e = c.in_err-pass_next.field-0.0 in
    rw (returned c.from_residual.result (ship_fault e) c.from_residual.ensures.1)
    (quiet_passed d calls j c.pass_next.new.journal end _ e
    (comes_to_end j.version d j.file j.seal j.gate (file_of calls j) end place last found (inv.passed observed d end place last found it within))
    (omega (arith, at_gate, c.loop-station-test.true, within.0)) (c.in_err-pass_next.ensures.passed observed))
