use Rattle.gts_standby.proofs.Cited.{rules, ◌≡◌, ◌+◌, ℕ, true, false, drop, ap, subst, ◌∙◌, arith, IsDamage, Version, bytes_from, compacted_bytes, file_of, held, is_at_checkpoint, need_of, open_end}
use Rattle.gts_checkpoint.specs.Reading.{HasRead}
use Rattle.gts_standby.proofs.ExitLemmas.{returned}
use Rattle.gts_standby.proofs.FirstLemmas.{no_damage}
use Rattle.gts_standby.proofs.CompareLemmas.{device_read, device_passed, first_leads, behind_first, behind_one}
use Rattle.gts_standby.proofs.comparing.own_first.Goals as goal

pub returns-then-not-at_checkpoint-clause-on : goal.returns-then-not-at_checkpoint-clause-on
returns-then-not-at_checkpoint-clause-on g c = λ observed end first low.
    let d = c.args.directory.now in
    let old = g.P.Station.calls c.args.station.now in
    let j = c.args.own.now in
    let plain : is_at_checkpoint j ≡ false = search rules in
    let passed = c.in_ok-pass_next.ensures.passed observed in
    behind_one d old _ j c.pass_next.new.journal passed.0 end _ (first_leads d old j end first plain) passed.1 passed.2 (c.in_ok-pass_next.ensures.looks.told observed)

pub returns-in_err-pass_next-clause-on : goal.returns-in_err-pass_next-clause-on
returns-in_err-pass_next-clause-on g c = λ observed end first low.
    let d = c.args.directory.now in
    let old = g.P.Station.calls c.args.station.now in
    let j = c.args.own.now in
    let e = c.in_err-pass_next.field-0.0 in
    let plain : is_at_checkpoint j ≡ false = search rules in
    rw (returned c.from_residual.result (open_end e) c.from_residual.ensures.1)
    (device_passed d old j c.pass_next.new.journal end _ e (first_leads d old j end first plain) (omega (arith, c.requires.begins, low)) (c.in_err-pass_next.ensures.passed observed))

pub returns-clause-on : goal.returns-clause-on
returns-clause-on g c = λ observed end first low.
    let d = c.args.directory.now in
    let old = g.P.Station.calls c.args.station.now in
    let j = c.args.own.now in
    let gate : ℕ = c.in_ok-found.found.1 in
    let n = need_of c.in_ok-found.found.0 in
    let packed : is_at_checkpoint j ≡ true = search rules in
    let H : ℕ → Type 0 = λ k. HasRead c.version.result d (bytes_from old k 41) n (held c.version.result c.in_ok-found.found.2) in
    let K : Version → Type 0 = λ v. HasRead v d (bytes_from old j.file 41) n (held v c.in_ok-found.found.2) in
    let read = subst K c.version.ensures (subst H c.file-file.ensures.file (c.in_ok-found.ensures.found observed)) in
    let place : gate + 1 ≡ compacted_bytes j.version n = c.in_ok-found.ensures.begins.place ∙ ap (λ (v : Version). compacted_bytes v n) c.version.ensures in
    behind_first d old _ j c.pass.new.self end n (held j.version c.in_ok-found.found.2) gate first packed read place (c.in_ok-found.ensures.looks.told observed) c.pass.ensures.place

pub returns-in_err-found-clause-on : goal.returns-in_err-found-clause-on
returns-in_err-found-clause-on g c = λ observed end first low.
    let d = c.args.directory.now in
    let old = g.P.Station.calls c.args.station.now in
    let j = c.args.own.now in
    let packed : is_at_checkpoint j ≡ true = search rules in
    let D : ℕ → Type 0 = λ k. IsDamage c.version.result d k (bytes_from old k 41) c.in_err-found.field-0.0 in
    let E : Version → Type 0 = λ v. IsDamage v d j.file (bytes_from old j.file 41) c.in_err-found.field-0.0 in
    let damage = subst E c.version.ensures (subst D c.file-file.ensures.file (c.in_err-found.ensures.fault observed)) in
    rw (returned c.from_residual-in_err-found.result (open_end c.in_err-found.field-0.0) c.from_residual-in_err-found.ensures.1) (device_read j.version d j.file (drop 41 (file_of old j)) c.in_err-found.field-0.0 damage (no_damage d old j end first packed))
