use Rattle.gts_standby.proofs.Cited.{rules, ◌≡◌, ◌+◌, ◌-◌, ◌^◌, ◌<◌, ◌≤◌, ℕ, List, length, refl, sym, ap, subst, ◌∙◌, arith, HasWritten, HoldsState, WorksBeside, begun, compacted_bytes, held, need_of, need_seal, seal_size, written, fit_bytes, closed_there, still_stands, common_steps}
use Rattle.gts_standby.proofs.BeginLemmas.{still_stands_for, holds_begun, begun_stands, all_moments}
use Rattle.gts_standby.proofs.beginning.put.Goals as goal

pub write-requires-clause-fits : goal.write-requires-clause-fits
write-requires-clause-fits g c =
    let few : length c.args.directory.now.circuits ≤ 64 = c.bounds_hold.ensures.circuits in
    fit_bytes c.args.directory.now (need_of c.args.need.now) (omega (arith, few)) c.requires.sound

pub select-requires-clause-stands : goal.select-requires-clause-stands
select-requires-clause-stands g c = grind (arith, common_steps, still_stands)

pub select-requires-clause-closed : goal.select-requires-clause-closed
select-requires-clause-closed g c = grind (arith, common_steps, closed_there)

pub returns-in-Ok-select-clause-begun : goal.returns-in-Ok-select-clause-begun
returns-in-Ok-select-clause-begun g c = λ tell s f.
    let d = c.args.directory.now in
    let old = g.P.Station.calls c.args.station.now in
    let mid = g.P.Station.calls c.write.new.station in
    let new = g.P.Station.calls c.select.new.station in
    let j = c.args.journal.now in
    let n = need_of c.args.need.now in
    let low : j.file < 2 = omega (arith, c.file.ensures.file, c.file.ensures.below) in
    let file_is : c.other-other.result ≡ 1 - j.file = c.other-other.ensures ∙ ap (λ (k : ℕ). 1 - k) c.file.ensures.file in
    let beside : WorksBeside (1 - j.file) old mid = subst (λ (k : ℕ). WorksBeside k old mid) file_is (c.write.ensures.beside tell) in
    let size : length d.mark ≡ 32 = (let long : length c.mark.result ≡ 32 = search rules in ap (λ (mark : List ℕ). length mark) (sym c.mark.ensures) ∙ long) in
    let wrote : HasWritten d.mark n c.other-other.result mid = subst (λ (mark : List ℕ). HasWritten mark n c.other-other.result mid) c.mark.ensures (c.in-Ok.ensures.written tell) in
    let limit : d.limit < 256 ^ 4 = omega (arith, c.bounds_hold.ensures.greatest) in
    let used : ℕ = 42 + c.seal_size.result + c.args.size in
    let seal : c.seal_size.result ≡ seal_size written = c.seal_size.ensures.value ∙ ap seal_size c.written.ensures in
    let used_is : compacted_bytes written n - 1 + 1 ≡ used = omega (arith, seal, c.requires.size) in
    let last : need_seal d.mark n ≡ held written c.in-Ok.seal = sym (c.in-Ok.ensures.seal ∙ ap (λ (mark : List ℕ). need_seal mark n) c.mark.ensures) in
    let H : ℕ → Type 0 = λ k. HoldsState written d (begun n) mid c.other-other.result k (need_seal d.mark n) in
    let K : List ℕ → Type 0 = λ l. HoldsState written d (begun n) mid c.other-other.result used l in
    let holds = subst K last (subst H used_is (holds_begun d n c.other-other.result mid wrote size limit c.requires.sound c.requires.free c.requires.fits)) in
    begun_stands d s n mid new j c.select.new.self c.other-other.result used (held written c.in-Ok.seal)
    (still_stands old mid j f.stands low beside) (still_stands_for d s old mid j f low beside) holds (omega arith)
    (c.in-Ok-select.ensures.others tell c.other-other.result (λ e. omega (arith, e))) (c.in-Ok-select.ensures.stands tell) c.in-Ok-select.ensures.place

pub returns-in-Ok-select-clause-moments : goal.returns-in-Ok-select-clause-moments
returns-in-Ok-select-clause-moments g c = λ tell s f.
    let d = c.args.directory.now in
    let old = g.P.Station.calls c.args.station.now in
    let mid = g.P.Station.calls c.write.new.station in
    let j = c.args.journal.now in
    let n = need_of c.args.need.now in
    let low : j.file < 2 = omega (arith, c.file.ensures.file, c.file.ensures.below) in
    let file_is : c.other-other.result ≡ 1 - j.file = c.other-other.ensures ∙ ap (λ (k : ℕ). 1 - k) c.file.ensures.file in
    let beside : WorksBeside (1 - j.file) old mid = subst (λ (k : ℕ). WorksBeside k old mid) file_is (c.write.ensures.beside tell) in
    let size : length d.mark ≡ 32 = (let long : length c.mark.result ≡ 32 = search rules in ap (λ (mark : List ℕ). length mark) (sym c.mark.ensures) ∙ long) in
    let there : HasWritten c.mark.result n (1 - j.file) mid = subst (λ (k : ℕ). HasWritten c.mark.result n k mid) file_is (c.in-Ok.ensures.written tell) in
    let wrote : HasWritten d.mark n (1 - j.file) mid = subst (λ (mark : List ℕ). HasWritten mark n (1 - j.file) mid) c.mark.ensures there in
    let limit : d.limit < 256 ^ 4 = omega (arith, c.bounds_hold.ensures.greatest) in
    all_moments d s n old j f low mid beside _ _ (holds_begun d n (1 - j.file) mid wrote size limit c.requires.sound c.requires.free c.requires.fits) (g.P.Station.calls c.select.new.station)
    (omega arith) refl (c.select.ensures.moments tell)

pub returns-in-Err-clause-moments : goal.returns-in-Err-clause-moments
returns-in-Err-clause-moments g c = λ tell s f.
    let d = c.args.directory.now in
    let old = g.P.Station.calls c.args.station.now in
    let mid = g.P.Station.calls c.write.new.station in
    let j = c.args.journal.now in
    let n = need_of c.args.need.now in
    let low : j.file < 2 = omega (arith, c.file.ensures.file, c.file.ensures.below) in
    let file_is : c.other-other.result ≡ 1 - j.file = c.other-other.ensures ∙ ap (λ (k : ℕ). 1 - k) c.file.ensures.file in
    let beside : WorksBeside (1 - j.file) old mid = subst (λ (k : ℕ). WorksBeside k old mid) file_is (c.write.ensures.beside tell) in
    let size : length d.mark ≡ 32 = (let long : length c.mark.result ≡ 32 = search rules in ap (λ (mark : List ℕ). length mark) (sym c.mark.ensures) ∙ long) in
    let there : HasWritten c.mark.result n (1 - j.file) mid = subst (λ (k : ℕ). HasWritten c.mark.result n k mid) file_is (c.in-Ok.ensures.written tell) in
    let wrote : HasWritten d.mark n (1 - j.file) mid = subst (λ (mark : List ℕ). HasWritten mark n (1 - j.file) mid) c.mark.ensures there in
    let limit : d.limit < 256 ^ 4 = omega (arith, c.bounds_hold.ensures.greatest) in
    all_moments d s n old j f low mid beside _ _ (holds_begun d n (1 - j.file) mid wrote size limit c.requires.sound c.requires.free c.requires.fits) (g.P.Station.calls c.select.new.station)
    (omega arith) refl (c.select.ensures.moments tell)
