use Rattle.gts_standby.proofs.Cited.{◌≡◌, ◌+◌, ◌-◌, ℕ, Bool, cond, List, Some, Ok, length, take, drop, sym, ap, subst, ◌∙◌, arith, Call, SaysFront, Speaks, file_of, next_entry, on, record_of, seen, ship_fault}
use Rattle.gts_record.specs.declared.value.Record.{Record}
use Rattle.gts_standby.proofs.ExitLemmas.{returned}
use Rattle.gts_standby.proofs.SayLemmas.{fronts_none}
use Rattle.gts_standby.proofs.FeedLemmas.{record_stands}
use Rattle.gts_standby.proofs.ShipLemmas.{quiet_passed, said_one}
use Rattle.gts_standby.proofs.records.say_next.Goals as goal

pub returns-in_err-pass_next-clause-said : goal.returns-in_err-pass_next-clause-said
returns-in_err-pass_next-clause-said g c = λ observed d end left at low.
    let j = c.args.journal.now in
    let old = g.P.Station.calls c.args.station.now in
    rw (returned c.from_residual.result (ship_fault c.in_err-pass_next.field-0.0) c.from_residual.ensures.1) (
      (quiet_passed d old j c.pass_next.new.journal end left c.in_err-pass_next.field-0.0 at low (c.in_err-pass_next.ensures.passed observed)),
      subst (λ (calls : List Call). SaysFront old calls (on 0 left)) (sym (c.in_err-pass_next.ensures.looks.told observed)) (fronts_none old left),
    )

pub say_part-requires-clause-there : goal.say_part-requires-clause-there
say_part-requires-clause-there g c = λ observed.
    let j = c.args.journal.now in
    let old = g.P.Station.calls c.args.station.now in
    let passed = c.in_ok-pass_next.ensures.passed observed in
    let r : Record = passed.0 in
    let next = c.pass_next.new.journal in
    let gone = passed.2 in
    let entry : next_entry old j ≡ Ok (Some (record_of r)) = passed.1 in
    let stands = record_stands j.version j.seal j.file j.gate (file_of old j) (record_of r) entry in
    let place : c.used-behind.result ≡ next.gate = c.used-behind.ensures ∙ ap (λ (b : Bool). cond b (next.gate + 1) next.gate) gone.4 in
    let bytes : seen (g.P.Station.calls c.pass_next.new.station) c.file-file.result ≡ file_of old j =
    ap (λ (calls : List Call). seen calls c.file-file.result) (c.in_ok-pass_next.ensures.looks.told observed) ∙ ap (seen old) c.file-file.ensures.file in
    omega (arith, stands.there, place, gone.2, ap (λ (l : List ℕ). length l) bytes)

pub returns-clause-said : goal.returns-clause-said
returns-clause-said g c = λ observed d end left at low.
    let j = c.args.journal.now in
    let old = g.P.Station.calls c.args.station.now in
    let new = g.P.Station.calls c.say_part.new.station in
    let passed = c.in_ok-pass_next.ensures.passed observed in
    let r : Record = passed.0 in
    let next = c.pass_next.new.journal in
    let gone = passed.2 in
    let entry : next_entry old j ≡ Ok (Some (record_of r)) = passed.1 in
    let place : c.used-behind.result ≡ next.gate = c.used-behind.ensures ∙ ap (λ (b : Bool). cond b (next.gate + 1) next.gate) gone.4 in
    let from : c.used-gate.result ≡ j.gate = c.used-gate.ensures ∙ ap (λ (b : Bool). cond b (j.gate + 1) j.gate) c.requires.going in
    let told = c.in_ok-pass_next.ensures.looks.told observed in
    let by_calls = subst (λ (calls : List Call). Speaks c.say_part.result calls new (take (c.used-behind.result - (c.used-gate.result + 1)) (drop (c.used-gate.result + 1) (seen calls c.file-file.result)))) told (c.say_part.ensures.told observed) in
    let by_file = subst (λ (k : ℕ). Speaks c.say_part.result old new (take (c.used-behind.result - (c.used-gate.result + 1)) (drop (c.used-gate.result + 1) (seen old k)))) c.file-file.ensures.file by_calls in
    let by_end = subst (λ (k : ℕ). Speaks c.say_part.result old new (take (k - (c.used-gate.result + 1)) (drop (c.used-gate.result + 1) (file_of old j)))) place by_file in
    let by_start = subst (λ (k : ℕ). Speaks c.say_part.result old new (take (next.gate - (k + 1)) (drop (k + 1) (file_of old j)))) from by_end in
    said_one c.say_part.result d old new j next r end left at entry gone by_start (c.say_part.ensures.kind observed)
