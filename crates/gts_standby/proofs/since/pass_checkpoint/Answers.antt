use Rattle.gts_standby.proofs.Cited.{rules, ◌≡◌, ◌+◌, ℕ, true, false, drop, refl, ap, subst, ◌∙◌, IsDamage, Version, bytes_from, compacted_bytes, file_of, held, is_at_checkpoint, need_of, ship_fault}
use Rattle.gts_checkpoint.specs.Reading.{HasRead}
use Rattle.gts_standby.proofs.ExitLemmas.{returned}
use Rattle.gts_standby.proofs.FirstLemmas.{no_damage, quiet_read}
use Rattle.gts_standby.proofs.SinceLemmas.{before_plain, before_packed}
use Rattle.gts_standby.proofs.since.pass_checkpoint.Goals as goal

pub returns-then-not-at_checkpoint-clause-passed : goal.returns-then-not-at_checkpoint-clause-passed
returns-then-not-at_checkpoint-clause-passed g c = λ observed end place last first.
    let j = c.args.journal.now in
    let plain : is_at_checkpoint j ≡ false = search rules in
    before_plain c.args.directory.now (g.P.Station.calls c.args.station.now) _ j end place last first plain refl

pub returns-clause-passed : goal.returns-clause-passed
returns-clause-passed g c = λ observed end place last first.
    let d = c.args.directory.now in
    let old = g.P.Station.calls c.args.station.now in
    let j = c.args.journal.now in
    let gate : ℕ = c.in_ok-found.found.1 in
    let n = need_of c.in_ok-found.found.0 in
    let packed : is_at_checkpoint j ≡ true = search rules in
    let H : ℕ → Type 0 = λ k. HasRead c.version.result d (bytes_from old k 41) n (held c.version.result c.in_ok-found.found.2) in
    let K : Version → Type 0 = λ v. HasRead v d (bytes_from old j.file 41) n (held v c.in_ok-found.found.2) in
    let read = subst K c.version.ensures (subst H c.file-file.ensures.file (c.in_ok-found.ensures.found observed)) in
    let begins : gate + 1 ≡ compacted_bytes j.version n = c.in_ok-found.ensures.begins.place ∙ ap (λ (v : Version). compacted_bytes v n) c.version.ensures in
    before_packed d old _ j c.pass.new.self end place last n (held j.version c.in_ok-found.found.2) gate first packed read begins (c.in_ok-found.ensures.looks.told observed) c.pass.ensures.place

pub returns-in_err-found-clause-passed : goal.returns-in_err-found-clause-passed
returns-in_err-found-clause-passed g c = λ observed end place last first.
    let d = c.args.directory.now in
    let old = g.P.Station.calls c.args.station.now in
    let j = c.args.journal.now in
    let packed : is_at_checkpoint j ≡ true = search rules in
    let D : ℕ → Type 0 = λ k. IsDamage c.version.result d k (bytes_from old k 41) c.in_err-found.field-0.0 in
    let E : Version → Type 0 = λ v. IsDamage v d j.file (bytes_from old j.file 41) c.in_err-found.field-0.0 in
    let damage = subst E c.version.ensures (subst D c.file-file.ensures.file (c.in_err-found.ensures.fault observed)) in
    rw (returned c.from_residual.result (ship_fault c.in_err-found.field-0.0) c.from_residual.ensures.1)
    (quiet_read j.version d j.file (drop 41 (file_of old j)) c.in_err-found.field-0.0 damage (no_damage d old j end first packed))
