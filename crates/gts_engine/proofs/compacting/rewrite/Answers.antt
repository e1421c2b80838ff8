use Rattle.gts_engine.proofs.Cited.{rules, ◌≡◌, ◌-◌, ◌<◌, ℕ, Result, Err, None, length, ap, subst, ◌∙◌, arith, IfErr, err_from_is_err_and, DiskFault, SwitchFault, compacted_bytes, held, need_of, written, fit_bytes, common_steps}
use Rattle.gts_engine.proofs.CompactLemmas.{sound, size_free, size_few}
use Rattle.gts_engine.proofs.StepLemmas.{idle_going}
use Rattle.gts_engine.proofs.RewritingLemmas.{sound_put, moments_put, failed_put, whole_put, moments_all, compaction_by, sound_by, written_by}
use Rattle.gts_engine.proofs.AnsweringLemmas.{cause_alike, cause_then, no_device_done}
use Rattle.gts_engine.proofs.compacting.rewrite.Goals as goal

fault_of : (result : Result (Unit {0}) SwitchFault) (e : SwitchFault) → result ≡ Err e → IfErr result (λ x. x ≡ DiskFault) → e ≡ DiskFault
fault_of result e is h = let F : Result (Unit {0}) SwitchFault → Type 0 = λ r. IfErr r (λ x. x ≡ DiskFault) in subst F is h

pub put-requires-clause-fits : goal.put-requires-clause-fits
put-requires-clause-fits g c =
    let p = c.args.parts.now in
    let g0 = idle_going g.P.Station p c.requires.sound c.requires.going c.requires.rests in
    let n_is = c.requires.need p.directory g0.state g0.holds in
    fit_bytes p.directory _ p.within.circuits (sound g.P.Station.observed p.directory (g.P.Station.calls p.station) p.core p.journal g0 _ n_is)

pub compacted_size-used-requires : goal.compacted_size-used-requires
compacted_size-used-requires g c = grind (arith, common_steps, idle_going, sound, size_few)

pub choose-requires-clause-whole : goal.choose-requires-clause-whole
choose-requires-clause-whole g c =
    let p = c.args.parts.now in
    let g0 = idle_going g.P.Station p c.requires.sound c.requires.going c.requires.rests in
    let n = need_of c.args.need.now in
    let low : p.journal.file < 2 = omega (arith, c.file.ensures.file, c.file.ensures.below) in
    let file : ℕ = c.other-other.result in
    let file_is : file ≡ 1 - p.journal.file = c.other-other.ensures ∙ ap (λ (k : ℕ). 1 - k) c.file.ensures.file in
    let mark = c.mark-mark.result in
    let long : length mark ≡ 32 = search rules in
    let used : ℕ = c.compacted_size-used.result in
    let used_is : used ≡ compacted_bytes written n =
    c.compacted_size-used.ensures ∙ size_free p.directory g0.state n c.args.size (c.requires.need p.directory g0.state g0.holds) c.requires.size (c.requires.free g0.state g0.holds) (omega (arith, p.within.limit)) in
    let q = c.put.new.parts in
    whole_put g.P.Station p c.requires.going c.requires.sound c.requires.rests g0 n c.requires.need c.requires.free low file file_is mark c.mark-mark.ensures long used used_is q c.put.ensures.rest c.put.ensures.beside c.in_ok-seal.ensures.written (held written c.in_ok-seal.seal) c.in_ok-seal.ensures.seal

pub returns : goal.returns
returns g c =
    let p = c.args.parts.now in
    let g0 = idle_going g.P.Station p c.requires.sound c.requires.going c.requires.rests in
    let n = need_of c.args.need.now in
    let low : p.journal.file < 2 = omega (arith, c.file.ensures.file, c.file.ensures.below) in
    let file : ℕ = c.other-other.result in
    let file_is : file ≡ 1 - p.journal.file = c.other-other.ensures ∙ ap (λ (k : ℕ). 1 - k) c.file.ensures.file in
    let mark = c.mark-mark.result in
    let long : length mark ≡ 32 = search rules in
    let used : ℕ = c.compacted_size-used.result in
    let used_is : used ≡ compacted_bytes written n =
    c.compacted_size-used.ensures ∙ size_free p.directory g0.state n c.args.size (c.requires.need p.directory g0.state g0.holds) c.requires.size (c.requires.free g0.state g0.holds) (omega (arith, p.within.limit)) in
    let q = c.put.new.parts in
    let q_none : q.stopped ≡ None = c.in_ok-seal.ensures.stops ∙ c.requires.going in
    record {
      compaction = compaction_by g.P.Station p c.requires.going c.requires.sound c.requires.rests g0 n c.requires.need c.requires.free low file file_is mark c.mark-mark.ensures long used used_is q c.put.ensures.rest c.put.ensures.beside c.in_ok-seal.ensures.written (held written c.in_ok-seal.seal) c.in_ok-seal.ensures.seal c.choose.new.parts c.choose.ensures.rest c.choose.ensures.silent c.choose.ensures.moments c.choose.result q_none c.choose.ensures.stops (λ e is. fault_of c.choose.result e is c.choose.ensures.fault) c.choose.ensures.batch c.choose.ensures.place c.choose.ensures.stands c.choose.ensures.files;
      sound = sound_by g.P.Station p c.requires.going c.requires.sound c.requires.rests g0 n c.requires.need c.requires.free low file file_is mark c.mark-mark.ensures long used used_is q c.put.ensures.rest c.put.ensures.beside c.in_ok-seal.ensures.written (held written c.in_ok-seal.seal) c.in_ok-seal.ensures.seal c.choose.new.parts c.choose.ensures.rest c.choose.ensures.silent c.choose.ensures.moments c.choose.result q_none c.choose.ensures.stops (λ e is. fault_of c.choose.result e is c.choose.ensures.fault) c.choose.ensures.batch c.choose.ensures.place c.choose.ensures.stands c.choose.ensures.files;
      moments = moments_all g.P.Station p c.requires.going c.requires.sound c.requires.rests g0 n c.requires.need c.requires.free low file file_is mark c.mark-mark.ensures long used used_is q c.put.ensures.rest c.put.ensures.beside c.in_ok-seal.ensures.written (held written c.in_ok-seal.seal) c.in_ok-seal.ensures.seal c.choose.new.parts c.choose.ensures.rest c.choose.ensures.silent c.choose.ensures.moments;
      written = written_by g.P.Station p c.requires.going c.requires.sound c.requires.rests g0 n c.requires.need c.requires.free low file file_is mark c.mark-mark.ensures long used used_is q c.put.ensures.rest c.put.ensures.beside c.in_ok-seal.ensures.written (held written c.in_ok-seal.seal) c.in_ok-seal.ensures.seal c.choose.new.parts c.choose.ensures.rest c.choose.ensures.silent c.choose.ensures.moments c.choose.result c.choose.ensures.batch c.choose.ensures.place c.choose.ensures.stands c.choose.ensures.files;
      stops = search rules;
      kind = search rules;
      unchanged = search rules;
      cause = cause_then c.put.result c.choose.result _ _ _ _ _ _ (no_device_done c.put.result c.in_ok-seal.seal c.in_ok-seal.was) c.put.ensures.cause c.choose.ensures.cause;
    }

pub returns-in_err-seal : goal.returns-in_err-seal
returns-in_err-seal g c =
    let p = c.args.parts.now in
    let x = err_from_is_err_and c.from_residual.result c.from_residual.ensures.1 in
    let g0 = idle_going g.P.Station p c.requires.sound c.requires.going c.requires.rests in
    let n = need_of c.args.need.now in
    let low : p.journal.file < 2 = omega (arith, c.file.ensures.file, c.file.ensures.below) in
    let file : ℕ = c.other-other.result in
    let file_is : file ≡ 1 - p.journal.file = c.other-other.ensures ∙ ap (λ (k : ℕ). 1 - k) c.file.ensures.file in
    let mark = c.mark-mark.result in
    let long : length mark ≡ 32 = search rules in
    let used : ℕ = c.compacted_size-used.result in
    let used_is : used ≡ compacted_bytes written n =
    c.compacted_size-used.ensures ∙ size_free p.directory g0.state n c.args.size (c.requires.need p.directory g0.state g0.holds) c.requires.size (c.requires.free g0.state g0.holds) (omega (arith, p.within.limit)) in
    let q = c.put.new.parts in
    rw (x.1, x.2) (record {
      compaction = failed_put g.P.Station p c.requires.going c.requires.sound c.requires.rests g0 n c.requires.need c.requires.free low file file_is mark c.mark-mark.ensures long used used_is q c.put.ensures.rest c.put.ensures.beside c.in_err-seal.field-0.0 c.in_err-seal.ensures.fault c.in_err-seal.ensures.stops;
      sound = sound_put g.P.Station p c.requires.going c.requires.sound c.requires.rests g0 n c.requires.need c.requires.free low file file_is mark c.mark-mark.ensures long used used_is q c.put.ensures.rest c.put.ensures.beside c.in_err-seal.field-0.0 c.in_err-seal.ensures.fault c.in_err-seal.ensures.stops
          (λ none. c.put.ensures.no_memory (c.in_err-seal.was ∙ ap {A = SwitchFault} (λ e. Err e) none));
      moments = moments_put g.P.Station p c.requires.going c.requires.sound c.requires.rests g0 n c.requires.need c.requires.free low file file_is mark c.mark-mark.ensures long used used_is q c.put.ensures.rest c.put.ensures.beside;
      written = λ tell. tt;
      stops = search rules;
      kind = search rules;
      unchanged = search rules;
      cause = cause_alike c.put.result c.in_err-seal.field-0.0 _ _ _ _ c.in_err-seal.was c.put.ensures.cause;
    })
