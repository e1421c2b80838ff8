use Rattle.gts_checkpoint.proofs.Cited.{◌≡◌, ◌+◌, ◌-◌, ◌*◌, ◌^◌, ◌<◌, ◌≤◌, ℕ, Option, sym, ap, subst, ◌∙◌, arith, IfSome, IfNone, CanBegin, Damaged, FindsText, bytes_from, draw_size, first_of, need_of, seal_size, unowed, Need, common_steps}
use Rattle.gts_checkpoint.proofs.ReadLemmas.{none_there, stands_there, counts_there, can_begin, no_room, not_sound, no_seal, compares, has_read, size_there, no_damage}
use Rattle.gts_checkpoint.proofs.SealLemmas.{last_is}
use Rattle.gts_checkpoint.proofs.reading.read.Goals as goal

pub returns-in_err-need-clause-fault : goal.returns-in_err-need-clause-fault
returns-in_err-need-clause-fault g c = grind (arith, common_steps, no_damage)

pub returns-in_default-clause-fault : goal.returns-in_default-clause-fault
returns-in_default-clause-fault g c = λ observed.
    let d = c.args.directory.now in
    let bytes = bytes_from (g.P.Station.calls c.args.station.now) c.args.file 41 in
    let count = c.circuits.result in
    let low : d.limit < 256 ^ 4 = omega (arith, c.limit-limit.ensures.value, c.limit-limit.ensures.range.1) in
    let F : Option (Need × ℕ) → Type 0 = λ o. FindsText bytes count (first_of o) in
    (ap (λ (k : ℕ). Damaged k 41) c.number.ensures.value, none_there c.args.version d bytes count c.circuits.ensures.value low (subst F c.in_default.is (c.in_ok-need.ensures.found observed)))

pub returns-in_default-gate_behind-clause-fault : goal.returns-in_default-gate_behind-clause-fault
returns-in_default-gate_behind-clause-fault g c = λ observed.
    let v = c.args.version in
    let d = c.args.directory.now in
    let n : Need = c.in-Some.need in
    let at : ℕ = c.in-Some.at in
    let bytes = bytes_from (g.P.Station.calls c.args.station.now) c.args.file 41 in
    let stands = stands_there bytes c.circuits.result c.in_ok-need.field-0 n at c.in-Some.is (c.in_ok-need.ensures.found observed) c.in_ok-need.ensures.fits c.in_ok-need.ensures.unowed in
    let counts = counts_there d c.in_ok-need.field-0 n at c.waiting-due.result c.limit-limit.result c.as_slice.result.now c.in-Some.is c.in_ok-need.ensures.place c.waiting-due.ensures c.as_slice.ensures
    c.limit-limit.ensures.value c.limit-limit.ensures.range.1 in
    let F : Option ℕ → Type 0 = λ o. IfNone o (c.limit-limit.result < at + seal_size v + 1 + draw_size v * c.waiting-due.result) in
    (ap (λ (k : ℕ). Damaged k 41) c.number.ensures.value, no_room v d bytes n at c.waiting-due.result c.limit-limit.result stands counts (subst F c.in_default-gate_behind.is c.gate_behind.ensures.none))

pub returns-then-not-branch-clause-fault : goal.returns-then-not-branch-clause-fault
returns-then-not-branch-clause-fault g c = λ observed.
    let d = c.args.directory.now in
    let n : Need = c.in-Some.need in
    let at : ℕ = c.in-Some.at in
    let bytes = bytes_from (g.P.Station.calls c.args.station.now) c.args.file 41 in
    let stands = stands_there bytes c.circuits.result c.in_ok-need.field-0 n at c.in-Some.is (c.in_ok-need.ensures.found observed) c.in_ok-need.ensures.fits c.in_ok-need.ensures.unowed in
    (ap (λ (k : ℕ). Damaged k 41) c.number.ensures.value, not_sound c.args.version d bytes (need_of n) stands (sym c.in_ok-is_sound.ensures ∙ c.if-not-branch.true))

pub seal_at-requires-clause-there : goal.seal_at-requires-clause-there
seal_at-requires-clause-there g c = grind (arith, common_steps, stands_there, size_there)

pub returns-in_default-2-clause-fault : goal.returns-in_default-2-clause-fault
returns-in_default-2-clause-fault g c = λ observed.
    let v = c.args.version in
    let d = c.args.directory.now in
    let n : Need = c.in-Some.need in
    let at : ℕ = c.in-Some.at in
    let bytes = bytes_from (g.P.Station.calls c.args.station.now) c.args.file 41 in
    let stands = stands_there bytes c.circuits.result c.in_ok-need.field-0 n at c.in-Some.is (c.in_ok-need.ensures.found observed) c.in_ok-need.ensures.fits c.in_ok-need.ensures.unowed in
    let compared = compares v d (g.P.Station.calls c.args.station.now) (g.P.Station.calls c.need_at.new.station) c.args.file n at c.in_ok-need.field-0 c.first_seal-before.result c.mark.result c.in_ok-seal.field-0 c.in-Some.is
    c.in_ok-need.ensures.place (c.in_ok-need.ensures.looks.told observed) c.first_seal-before.ensures.held c.mark.ensures (c.in_ok-seal.ensures.stands observed) in
    (ap (λ (k : ℕ). Damaged k 41) c.number.ensures.value, no_seal v d bytes (need_of n) c.first_seal-before.result (at - 41) c.in_ok-seal.field-0 stands compared c.in_default-2.is)

pub returns-clause-begins : goal.returns-clause-begins
returns-clause-begins g c =
    let v = c.args.version in
    let d = c.args.directory.now in
    let n : Need = c.in-Some.need in
    let at : ℕ = c.in-Some.at in
    let counts = counts_there d c.in_ok-need.field-0 n at c.waiting-due.result c.limit-limit.result c.as_slice.result.now c.in-Some.is c.in_ok-need.ensures.place c.waiting-due.ensures c.as_slice.ensures
    c.limit-limit.ensures.value c.limit-limit.ensures.range.1 in
    let F : Option (Need × ℕ) → Type 0 = λ o. IfSome o (λ f. unowed (need_of f.0) ≡ need_of f.0) in
    let P : Option ℕ → Type 0 = λ o. IfSome o (λ gate. gate ≡ at + seal_size v) in
    let R : Option ℕ → Type 0 = λ o. IfSome o (λ gate. gate + 1 + draw_size v * c.waiting-due.result ≤ c.limit-limit.result) in
    can_begin v d n at c.waiting-due.result c.limit-limit.result c.in-Some-gate_behind.gate counts (subst F c.in-Some.is c.in_ok-need.ensures.unowed) (sym c.in_ok-is_sound.ensures ∙ c.if-not-branch.false)
    (subst P c.in-Some-gate_behind.is c.gate_behind.ensures.place) (subst R c.in-Some-gate_behind.is c.gate_behind.ensures.room)

pub returns-clause-found : goal.returns-clause-found
returns-clause-found g c = λ observed.
    let v = c.args.version in
    let d = c.args.directory.now in
    let n : Need = c.in-Some.need in
    let at : ℕ = c.in-Some.at in
    let bytes = bytes_from (g.P.Station.calls c.args.station.now) c.args.file 41 in
    let stands = stands_there bytes c.circuits.result c.in_ok-need.field-0 n at c.in-Some.is (c.in_ok-need.ensures.found observed) c.in_ok-need.ensures.fits c.in_ok-need.ensures.unowed in
    let compared = compares v d (g.P.Station.calls c.args.station.now) (g.P.Station.calls c.need_at.new.station) c.args.file n at c.in_ok-need.field-0 c.first_seal-before.result c.mark.result c.in_ok-seal.field-0 c.in-Some.is
    c.in_ok-need.ensures.place (c.in_ok-need.ensures.looks.told observed) c.first_seal-before.ensures.held c.mark.ensures (c.in_ok-seal.ensures.stands observed) in
    let can : CanBegin v d (need_of n) c.in-Some-gate_behind.gate = returns-clause-begins g c in
    has_read v d bytes (need_of n) c.first_seal-before.result (at - 41) c.in-Some-gate_behind.gate c.in_ok-seal.field-0 c.in-Some-2.seal stands compared can c.in-Some-2.is
    (last_is v (g.P.Station.calls c.args.station.now) (g.P.Station.calls c.need_at.new.station) c.args.file (at - 41) c.first_seal-before.result c.in_ok-seal.field-0 c.in-Some-2.seal c.in-Some-2.is (c.in_ok-need.ensures.looks.told observed)
    (c.in_ok-seal.ensures.found observed))
