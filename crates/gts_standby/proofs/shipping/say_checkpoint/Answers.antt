use Rattle.gts_standby.proofs.Cited.{rules, ◌≡◌, ◌+◌, ◌-◌, ℕ, true, List, length, take, drop, sym, ap, subst, ◌∙◌, arith, Call, IsDamage, SaysFront, SaysHere, Version, behind_header, bytes_from, compacted_bytes, file_of, held, is_at_checkpoint, need_of, on, seen, ship_fault, common_steps}
use Rattle.gts_checkpoint.specs.Reading.{HasRead}
use Rattle.gts_standby.proofs.ExitLemmas.{returned}
use Rattle.gts_standby.proofs.SayLemmas.{fronts_none}
use Rattle.gts_standby.proofs.ShipLemmas.{nothing_yet}
use Rattle.gts_standby.proofs.FirstLemmas.{plain_first, checkpoint_stands, no_damage, quiet_read, said_checkpoint, broken_checkpoint}
use Rattle.gts_standby.proofs.shipping.say_checkpoint.Goals as goal

pub returns-then-not-at_checkpoint-clause-said : goal.returns-then-not-at_checkpoint-clause-said
returns-then-not-at_checkpoint-clause-said g c = grind (arith, common_steps, nothing_yet, plain_first)

pub say_part-requires-clause-there : goal.say_part-requires-clause-there
say_part-requires-clause-there g c = λ observed.
    let d = c.args.directory.now in
    let old = g.P.Station.calls c.args.station.now in
    let j = c.args.journal.now in
    let n = need_of c.in_ok-found.found.0 in
    let H : ℕ → Type 0 = λ k. HasRead c.version.result d (bytes_from old k 41) n (held c.version.result c.in_ok-found.found.2) in
    let K : Version → Type 0 = λ v. HasRead v d (bytes_from old j.file 41) n (held v c.in_ok-found.found.2) in
    let read = subst K c.version.ensures (subst H c.file-file.ensures.file (c.in_ok-found.ensures.found observed)) in
    let place : c.in_ok-found.found.1 + 1 ≡ compacted_bytes j.version n = c.in_ok-found.ensures.begins.place ∙ ap (λ (v : Version). compacted_bytes v n) c.version.ensures in
    let stands = checkpoint_stands j.version d (file_of old j) n c.in_ok-found.found.1 read.admitted place in
    let bytes : seen (g.P.Station.calls c.read.new.station) c.file-file.result ≡ file_of old j =
    ap (λ (calls : List Call). seen calls c.file-file.result) (c.in_ok-found.ensures.looks.told observed) ∙ ap (seen old) c.file-file.ensures.file in
    omega (arith, stands.there, ap (λ (l : List ℕ). length l) bytes)

pub returns-clause-said : goal.returns-clause-said
returns-clause-said g c = λ observed.
    let d = c.args.directory.now in
    let old = g.P.Station.calls c.args.station.now in
    let new = g.P.Station.calls c.say_part.new.station in
    let j = c.args.journal.now in
    let gate : ℕ = c.in_ok-found.found.1 in
    let n = need_of c.in_ok-found.found.0 in
    let packed : is_at_checkpoint j ≡ true = search rules in
    let H : ℕ → Type 0 = λ k. HasRead c.version.result d (bytes_from old k 41) n (held c.version.result c.in_ok-found.found.2) in
    let K : Version → Type 0 = λ v. HasRead v d (bytes_from old j.file 41) n (held v c.in_ok-found.found.2) in
    let read = subst K c.version.ensures (subst H c.file-file.ensures.file (c.in_ok-found.ensures.found observed)) in
    let place : gate + 1 ≡ compacted_bytes j.version n = c.in_ok-found.ensures.begins.place ∙ ap (λ (v : Version). compacted_bytes v n) c.version.ensures in
    let S : List Call → Type 0 = λ calls. SaysHere calls new (take (gate - 41) (drop 41 (seen calls c.file-file.result))) in
    let T : ℕ → Type 0 = λ k. SaysHere old new (take (gate - 41) (drop 41 (seen old k))) in
    let says = subst T c.file-file.ensures.file (subst S (c.in_ok-found.ensures.looks.told observed) (c.in_ok-say_part.ensures.told observed)) in
    said_checkpoint d old new j c.pass.new.self c.args.end n (held j.version c.in_ok-found.found.2) gate (c.requires.first observed) packed read place says c.pass.ensures.place

pub returns-in_err-say_part-clause-said : goal.returns-in_err-say_part-clause-said
returns-in_err-say_part-clause-said g c = λ observed.
    let d = c.args.directory.now in
    let old = g.P.Station.calls c.args.station.now in
    let new = g.P.Station.calls c.say_part.new.station in
    let j = c.args.journal.now in
    let gate : ℕ = c.in_ok-found.found.1 in
    let n = need_of c.in_ok-found.found.0 in
    let packed : is_at_checkpoint j ≡ true = search rules in
    let H : ℕ → Type 0 = λ k. HasRead c.version.result d (bytes_from old k 41) n (held c.version.result c.in_ok-found.found.2) in
    let K : Version → Type 0 = λ v. HasRead v d (bytes_from old j.file 41) n (held v c.in_ok-found.found.2) in
    let read = subst K c.version.ensures (subst H c.file-file.ensures.file (c.in_ok-found.ensures.found observed)) in
    let place : gate + 1 ≡ compacted_bytes j.version n = c.in_ok-found.ensures.begins.place ∙ ap (λ (v : Version). compacted_bytes v n) c.version.ensures in
    let S : List Call → Type 0 = λ calls. SaysFront calls new (on 0 (take (gate - 41) (drop 41 (seen calls c.file-file.result)))) in
    let T : ℕ → Type 0 = λ k. SaysFront old new (on 0 (take (gate - 41) (drop 41 (seen old k)))) in
    let says = subst T c.file-file.ensures.file (subst S (c.in_ok-found.ensures.looks.told observed) (c.in_err-say_part.ensures.told observed)) in
    rw (returned c.from_residual-in_err-say_part.result c.in_err-say_part.field-0.0 c.from_residual-in_err-say_part.ensures.1)
    (c.in_err-say_part.ensures.kind observed, broken_checkpoint d old new j c.args.end n (held j.version c.in_ok-found.found.2) gate (c.requires.first observed) packed read place says)

pub returns-in_err-found-clause-said : goal.returns-in_err-found-clause-said
returns-in_err-found-clause-said g c = λ observed.
    let d = c.args.directory.now in
    let old = g.P.Station.calls c.args.station.now in
    let j = c.args.journal.now in
    let packed : is_at_checkpoint j ≡ true = search rules in
    let D : ℕ → Type 0 = λ k. IsDamage c.version.result d k (bytes_from old k 41) c.in_err-found.field-0.0 in
    let E : Version → Type 0 = λ v. IsDamage v d j.file (bytes_from old j.file 41) c.in_err-found.field-0.0 in
    let damage = subst E c.version.ensures (subst D c.file-file.ensures.file (c.in_err-found.ensures.fault observed)) in
    let quiet = quiet_read j.version d j.file (drop 41 (file_of old j)) c.in_err-found.field-0.0 damage (no_damage d old j c.args.end (c.requires.first observed) packed) in
    rw (returned c.from_residual.result (ship_fault c.in_err-found.field-0.0) c.from_residual.ensures.1) (
      quiet,
      subst (λ (calls : List Call). SaysFront old calls (on 0 (behind_header d old j))) (sym (c.in_err-found.ensures.looks.told observed)) (fronts_none old (behind_header d old j)),
    )
