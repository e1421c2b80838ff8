use Rattle.gts_recovery.proofs.Cited.{◌≡◌, ℕ, true, subst, rules, CanBegin, HasRead, IsDamage, IsFaultIn, Version, bytes_from, held, is_at_checkpoint, need_of, opened_by, common_steps, arith}
use Rattle.gts_recovery.proofs.ReadingLemmas.{passed_on}
use Rattle.gts_recovery.proofs.OpenLemmas.{start_reading, checkpoint_reading, checkpoint_fault}
use Rattle.gts_recovery.proofs.opening.begin.Goals as goal

pub returns-then-not-at_checkpoint-clause-reading : goal.returns-then-not-at_checkpoint-clause-reading
returns-then-not-at_checkpoint-clause-reading g c = grind (arith, common_steps, start_reading)

pub returns-clause-reading : goal.returns-clause-reading
returns-clause-reading g c =
    let packed : is_at_checkpoint c.args.journal.now ≡ true = search rules in
    let d = c.args.directory.now in
    let n = need_of c.in_ok-need.need in
    let gate = c.in_ok-need.gate in
    let seal = c.in_ok-need.seal in
    let old = g.P.Station.calls c.args.station.now in
    let new = g.P.Station.calls c.read.new.station in
    let H : ℕ → Type 0 = λ f. HasRead c.version.result d (bytes_from old f 41) n (held c.version.result seal) in
    let K : Version → Type 0 = λ v. HasRead v d (bytes_from old c.args.journal.now.file 41) n (held v seal) in
    checkpoint_reading d old new c.in_ok-core.core c.args.journal.now c.pass.new.self n gate (held c.args.journal.now.version seal) c.requires packed
    c.in_ok-need.ensures.looks.told (λ tell. subst K c.version.ensures (subst H c.file.ensures.file (c.in_ok-need.ensures.found tell)))
    (subst (λ (v : Version). CanBegin v d n gate) c.version.ensures c.in_ok-need.ensures.begins) c.in_ok-core.ensures c.pass.ensures.place c.pass.ensures.stands

pub returns-in_err-need-clause-fault : goal.returns-in_err-need-clause-fault
returns-in_err-need-clause-fault g c = λ tell.
    let packed : is_at_checkpoint c.args.journal.now ≡ true = search rules in
    let d = c.args.directory.now in
    let j = c.args.journal.now in
    let fault = c.in_err-need.field-0.0 in
    let old = g.P.Station.calls c.args.station.now in
    let D : ℕ → Type 0 = λ f. IsDamage c.version.result d f (bytes_from old f 41) fault in
    let E : Version → Type 0 = λ v. IsDamage v d j.file (bytes_from old j.file 41) fault in
    passed_on (λ e. IsFaultIn e (opened_by d old j)) c.from_residual-in_err-need.result fault c.from_residual-in_err-need.ensures.1
    (checkpoint_fault d old j fault c.requires packed tell (subst E c.version.ensures (subst D c.file.ensures.file (c.in_err-need.ensures.fault tell))))
