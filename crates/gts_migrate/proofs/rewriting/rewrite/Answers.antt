use Rattle.gts_migrate.proofs.Cited.{rules, ◌≡◌, ◌-◌, ◌^◌, ◌<◌, ◌≤◌, ℕ, List, Ok, Err, length, sym, ap, subst, ◌∙◌, arith, err_from_is_err_and, HasWritten, MigrateFault, SaysAll, SaysFor, WorksBeside, compacted_bytes, held, need_of, on, selecting, written, fit_bytes, closed_there, still_stands, common_steps}
use Rattle.gts_migrate.proofs.MigratingLemmas.{writing, speaking, spoke, stands_spoken, closed_spoken, unsaid_write, said_part, said_whole, all_moments, migrated}
use Rattle.gts_migrate.proofs.rewriting.rewrite.Goals as goal

pub compacted_size-used-requires : goal.compacted_size-used-requires
compacted_size-used-requires g c = omega (arith, c.requires.size, c.requires.fits.room, c.bounds_hold.ensures.greatest)

pub write-requires-clause-fits : goal.write-requires-clause-fits
write-requires-clause-fits g c =
    let few : length c.args.new.now.circuits ≤ 64 = c.bounds_hold.ensures.circuits in
    fit_bytes c.args.new.now (need_of c.args.prepared.now.need) (omega (arith, few)) c.requires.fits.sound

pub select-requires-clause-stands : goal.select-requires-clause-stands
select-requires-clause-stands g c = λ tell.
    let old = g.P.Station.calls c.args.station.now in
    let mid = g.P.Station.calls c.write.new.station in
    let spoken = g.P.Station.calls c.say_receipts.new.station in
    let bytes = c.args.prepared.now.receipts.items in
    let j = c.args.journal in
    let low : j.file < 2 = omega (arith, c.file.ensures.file, c.file.ensures.below) in
    let file_is : c.other-other.result ≡ 1 - j.file = c.other-other.ensures ∙ ap (λ (k : ℕ). 1 - k) c.file.ensures.file in
    let beside : WorksBeside (1 - j.file) old mid = subst (λ (k : ℕ). WorksBeside k old mid) file_is (c.write.ensures.beside tell) in
    stands_spoken bytes mid spoken j (spoke bytes c.in_ok-say_receipts.field-0 mid spoken (subst (λ (l : List ℕ). SaysAll {T = Unit {0}} {E = MigrateFault} l (Ok c.in_ok-say_receipts.field-0) mid spoken) c.as_slice.ensures.value (c.in_ok-say_receipts.ensures.told tell))) (still_stands old mid j (c.requires.stands tell) low beside)

pub select-requires-clause-closed : goal.select-requires-clause-closed
select-requires-clause-closed g c = λ tell.
    let n = need_of c.args.prepared.now.need in
    let mid = g.P.Station.calls c.write.new.station in
    let spoken = g.P.Station.calls c.say_receipts.new.station in
    let bytes = c.args.prepared.now.receipts.items in
    let long : length c.mark.result ≡ 32 = search rules in
    let low : c.args.new.now.limit < 2 ^ 63 = omega (arith, c.bounds_hold.ensures.greatest) in
    let used_is : c.compacted_size-used.result ≡ compacted_bytes written n = omega (arith, c.compacted_size-used.ensures, c.requires.size, c.requires.fits.room, low) in
    closed_spoken bytes mid spoken c.args.journal c.other-other.result c.compacted_size-used.result (spoke bytes c.in_ok-say_receipts.field-0 mid spoken (subst (λ (l : List ℕ). SaysAll {T = Unit {0}} {E = MigrateFault} l (Ok c.in_ok-say_receipts.field-0) mid spoken) c.as_slice.ensures.value (c.in_ok-say_receipts.ensures.told tell)))
    (closed_there c.mark.result n c.other-other.result mid c.args.journal c.compacted_size-used.result (c.in_ok-seal.ensures.written tell) long used_is)

pub returns-clause-moments : goal.returns-clause-moments
returns-clause-moments g c = λ tell from s can.
    let old = g.P.Station.calls c.args.station.now in
    let mid = g.P.Station.calls c.write.new.station in
    let spoken = g.P.Station.calls c.say_receipts.new.station in
    let bytes = c.args.prepared.now.receipts.items in
    let j = c.args.journal in
    let new = c.args.new.now in
    let n = need_of c.args.prepared.now.need in
    let low : j.file < 2 = omega (arith, c.file.ensures.file, c.file.ensures.below) in
    let file_is : c.other-other.result ≡ 1 - j.file = c.other-other.ensures ∙ ap (λ (k : ℕ). 1 - k) c.file.ensures.file in
    let beside : WorksBeside (1 - j.file) old mid = subst (λ (k : ℕ). WorksBeside k old mid) file_is (c.write.ensures.beside tell) in
    let sp = spoke bytes c.in_ok-say_receipts.field-0 mid spoken (subst (λ (l : List ℕ). SaysAll {T = Unit {0}} {E = MigrateFault} l (Ok c.in_ok-say_receipts.field-0) mid spoken) c.as_slice.ensures.value (c.in_ok-say_receipts.ensures.told tell)) in
    let since = speaking from new s n old j bytes can low mid beside c.say_receipts.result spoken (subst (λ (l : List ℕ). SaysAll l c.say_receipts.result mid spoken) c.as_slice.ensures.value (c.say_receipts.ensures.told tell)) in
    let long : length c.mark.result ≡ 32 = search rules in
    let there : HasWritten c.mark.result n (1 - j.file) mid = subst (λ (k : ℕ). HasWritten c.mark.result n k mid) file_is (c.in_ok-seal.ensures.written tell) in
    let wrote : HasWritten new.mark n (1 - j.file) mid = subst (λ (mark : List ℕ). HasWritten mark n (1 - j.file) mid) c.mark.ensures there in
    let size : length new.mark ≡ 32 = ap (λ (mark : List ℕ). length mark) (sym c.mark.ensures) ∙ long in
    let limit : new.limit < 256 ^ 4 = omega (arith, c.bounds_hold.ensures.greatest) in
    all_moments from new s n old j bytes can low mid beside spoken sp since wrote c.requires.fits size limit (g.P.Station.calls c.select.new.station) (c.select.ensures.moments tell)

pub returns-in_err-select-clause-moments : goal.returns-in_err-select-clause-moments
returns-in_err-select-clause-moments g c = λ tell from s can.
    let old = g.P.Station.calls c.args.station.now in
    let mid = g.P.Station.calls c.write.new.station in
    let spoken = g.P.Station.calls c.say_receipts.new.station in
    let bytes = c.args.prepared.now.receipts.items in
    let j = c.args.journal in
    let new = c.args.new.now in
    let n = need_of c.args.prepared.now.need in
    let low : j.file < 2 = omega (arith, c.file.ensures.file, c.file.ensures.below) in
    let file_is : c.other-other.result ≡ 1 - j.file = c.other-other.ensures ∙ ap (λ (k : ℕ). 1 - k) c.file.ensures.file in
    let beside : WorksBeside (1 - j.file) old mid = subst (λ (k : ℕ). WorksBeside k old mid) file_is (c.write.ensures.beside tell) in
    let sp = spoke bytes c.in_ok-say_receipts.field-0 mid spoken (subst (λ (l : List ℕ). SaysAll {T = Unit {0}} {E = MigrateFault} l (Ok c.in_ok-say_receipts.field-0) mid spoken) c.as_slice.ensures.value (c.in_ok-say_receipts.ensures.told tell)) in
    let since = speaking from new s n old j bytes can low mid beside c.say_receipts.result spoken (subst (λ (l : List ℕ). SaysAll l c.say_receipts.result mid spoken) c.as_slice.ensures.value (c.say_receipts.ensures.told tell)) in
    let long : length c.mark.result ≡ 32 = search rules in
    let there : HasWritten c.mark.result n (1 - j.file) mid = subst (λ (k : ℕ). HasWritten c.mark.result n k mid) file_is (c.in_ok-seal.ensures.written tell) in
    let wrote : HasWritten new.mark n (1 - j.file) mid = subst (λ (mark : List ℕ). HasWritten mark n (1 - j.file) mid) c.mark.ensures there in
    let size : length new.mark ≡ 32 = ap (λ (mark : List ℕ). length mark) (sym c.mark.ensures) ∙ long in
    let limit : new.limit < 256 ^ 4 = omega (arith, c.bounds_hold.ensures.greatest) in
    all_moments from new s n old j bytes can low mid beside spoken sp since wrote c.requires.fits size limit (g.P.Station.calls c.select.new.station) (c.select.ensures.moments tell)

pub returns-clause-written : goal.returns-clause-written
returns-clause-written g c = λ tell from s can.
    let old = g.P.Station.calls c.args.station.now in
    let mid = g.P.Station.calls c.write.new.station in
    let spoken = g.P.Station.calls c.say_receipts.new.station in
    let bytes = c.args.prepared.now.receipts.items in
    let j = c.args.journal in
    let new = c.args.new.now in
    let n = need_of c.args.prepared.now.need in
    let low : j.file < 2 = omega (arith, c.file.ensures.file, c.file.ensures.below) in
    let file_is : c.other-other.result ≡ 1 - j.file = c.other-other.ensures ∙ ap (λ (k : ℕ). 1 - k) c.file.ensures.file in
    let beside : WorksBeside (1 - j.file) old mid = subst (λ (k : ℕ). WorksBeside k old mid) file_is (c.write.ensures.beside tell) in
    let sp = spoke bytes c.in_ok-say_receipts.field-0 mid spoken (subst (λ (l : List ℕ). SaysAll {T = Unit {0}} {E = MigrateFault} l (Ok c.in_ok-say_receipts.field-0) mid spoken) c.as_slice.ensures.value (c.in_ok-say_receipts.ensures.told tell)) in
    let since = speaking from new s n old j bytes can low mid beside c.say_receipts.result spoken (subst (λ (l : List ℕ). SaysAll l c.say_receipts.result mid spoken) c.as_slice.ensures.value (c.say_receipts.ensures.told tell)) in
    let long : length c.mark.result ≡ 32 = search rules in
    let there : HasWritten c.mark.result n (1 - j.file) mid = subst (λ (k : ℕ). HasWritten c.mark.result n k mid) file_is (c.in_ok-seal.ensures.written tell) in
    let wrote : HasWritten new.mark n (1 - j.file) mid = subst (λ (mark : List ℕ). HasWritten mark n (1 - j.file) mid) c.mark.ensures there in
    let size : length new.mark ≡ 32 = ap (λ (mark : List ℕ). length mark) (sym c.mark.ensures) ∙ long in
    let limit : new.limit < 256 ^ 4 = omega (arith, c.bounds_hold.ensures.greatest) in
    let used : ℕ = c.compacted_size-used.result in
    let seal : List ℕ = held written c.in_ok-seal.seal in
    let at = c.in_ok-select.ensures.place ∙ ap (λ (k : ℕ). selecting written k used seal j) file_is in
    migrated from new s n old j bytes can low mid beside spoken sp since wrote c.requires.fits size limit (g.P.Station.calls c.select.new.station) c.select.new.self used seal at
    (c.in_ok-select.ensures.stands tell) (c.in_ok-select.ensures.others tell)

pub returns-in_err-say_receipts-clause-moments : goal.returns-in_err-say_receipts-clause-moments
returns-in_err-say_receipts-clause-moments g c = λ tell from s can.
    let old = g.P.Station.calls c.args.station.now in
    let mid = g.P.Station.calls c.write.new.station in
    let spoken = g.P.Station.calls c.say_receipts.new.station in
    let bytes = c.args.prepared.now.receipts.items in
    let j = c.args.journal in
    let new = c.args.new.now in
    let n = need_of c.args.prepared.now.need in
    let low : j.file < 2 = omega (arith, c.file.ensures.file, c.file.ensures.below) in
    let file_is : c.other-other.result ≡ 1 - j.file = c.other-other.ensures ∙ ap (λ (k : ℕ). 1 - k) c.file.ensures.file in
    let beside : WorksBeside (1 - j.file) old mid = subst (λ (k : ℕ). WorksBeside k old mid) file_is (c.write.ensures.beside tell) in
    speaking from new s n old j bytes can low mid beside c.say_receipts.result spoken (subst (λ (l : List ℕ). SaysAll l c.say_receipts.result mid spoken) c.as_slice.ensures.value (c.say_receipts.ensures.told tell))

pub returns-in_err-seal-clause-moments : goal.returns-in_err-seal-clause-moments
returns-in_err-seal-clause-moments g c = λ tell from s can.
    let old = g.P.Station.calls c.args.station.now in
    let mid = g.P.Station.calls c.write.new.station in
    let j = c.args.journal in
    let new = c.args.new.now in
    let n = need_of c.args.prepared.now.need in
    let low : j.file < 2 = omega (arith, c.file.ensures.file, c.file.ensures.below) in
    let file_is : c.other-other.result ≡ 1 - j.file = c.other-other.ensures ∙ ap (λ (k : ℕ). 1 - k) c.file.ensures.file in
    let beside : WorksBeside (1 - j.file) old mid = subst (λ (k : ℕ). WorksBeside k old mid) file_is (c.write.ensures.beside tell) in
    writing from new s n old j c.args.prepared.now.receipts.items can low mid beside

pub returns-clause-said : goal.returns-clause-said
returns-clause-said g c = grind (arith, common_steps, spoke, said_whole)

pub returns-in_err-select-clause-said : goal.returns-in_err-select-clause-said
returns-in_err-select-clause-said g c = grind (arith, common_steps, spoke, err_from_is_err_and, said_whole)

pub returns-in_err-say_receipts-clause-unsaid : goal.returns-in_err-say_receipts-clause-unsaid
returns-in_err-say_receipts-clause-unsaid g c = grind (arith, common_steps)

pub returns-in_err-say_receipts-clause-said : goal.returns-in_err-say_receipts-clause-said
returns-in_err-say_receipts-clause-said g c = λ tell.
    let old = g.P.Station.calls c.args.station.now in
    let mid = g.P.Station.calls c.write.new.station in
    let spoken = g.P.Station.calls c.say_receipts.new.station in
    let bytes = c.args.prepared.now.receipts.items in
    let fault = c.in_err-say_receipts.field-0.0 in
    let told = subst (λ (l : List ℕ). SaysAll {T = Unit {0}} {E = MigrateFault} l (Err fault) mid spoken) c.as_slice.ensures.value (c.in_err-say_receipts.ensures.told tell) in
    let p = err_from_is_err_and c.from_residual-in_err-say_receipts.result c.from_residual-in_err-say_receipts.ensures.1 in
    rw (p.1, p.2)
    (subst (λ (f : MigrateFault). SaysFor (Err f) (on 0 bytes) old spoken) (sym c.in_err-say_receipts.ensures.kind)
    (said_part bytes fault old mid spoken (c.write.ensures.beside tell).silent told))

pub returns-in_err-seal-clause-said : goal.returns-in_err-seal-clause-said
returns-in_err-seal-clause-said g c = grind (arith, common_steps, err_from_is_err_and, unsaid_write)
