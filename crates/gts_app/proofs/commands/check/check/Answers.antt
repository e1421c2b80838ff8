use Rattle.gts_app.proofs.Cited.{ℕ, List, ◌++◌, Err, refl, sym, ap, subst, ◌∙◌, OpenFault, TakesOver, changes, need}
use Rattle.gts_app.proofs.TryingLemmas.{new_unread, old_unread, not_opened, reported, not_said}
use Rattle.gts_app.proofs.SoundLemmas.{refusal_fails}
use Rattle.gts_app.proofs.commands.check.check.Goals as goal

pub returns-in-Err-clause-tries : goal.returns-in-Err-clause-tries
returns-in-Err-clause-tries g c = new_unread _ _ c.in-Err.status _ _ _ _ c.in-Err.ensures

pub returns-in-Err-old_directory_file_of-clause-tries : goal.returns-in-Err-old_directory_file_of-clause-tries
returns-in-Err-old_directory_file_of-clause-tries g c =
    old_unread g.S.Source g.P.Station c.in-Err-old_directory_file_of.status c.in-Ok.file _ _ _ _ c.args.world.now.station c.in-Ok.ensures
    c.in-Err-old_directory_file_of.ensures

pub returns-in-Err-changes-clause-tries : goal.returns-in-Err-changes-clause-tries
returns-in-Err-changes-clause-tries g c =
    let d = c.in-Ok.file in
    let o = c.in-Ok-old_directory_file_of.file in
    let takes = subst (λ x. TakesOver x o) c.directory.ensures (subst (λ x. TakesOver c.directory.result.now x) c.directory-2.ensures (c.in_default.ensures.takes_over.0 refl)) in
    let e = c.in-Err-changes.ensures in
    not_opened g.S.Source g.P.Station d o _ _ _ _ c.in-Ok.ensures c.in-Ok-old_directory_file_of.ensures takes c.args.world.now.station c.changes.new.station e.told e.cause.later e.cause.say c.in-Err-changes.fault c.refusal.result c.refusal.ensures e.fault e.never_older
    (λ disk. e.cause.failed (ap (λ (fault : OpenFault). Err fault) disk))

pub returns-in-Err-say-clause-tries : goal.returns-in-Err-say-clause-tries
returns-in-Err-say-clause-tries g c =
    let d = c.in-Ok.file in
    let o = c.in-Ok-old_directory_file_of.file in
    let takes = subst (λ x. TakesOver x o) c.directory.ensures (subst (λ x. TakesOver c.directory.result.now x) c.directory-2.ensures (c.in_default.ensures.takes_over.0 refl)) in
    let e = c.in_default-changes.ensures in
    let s = c.in-Err-say.ensures in
    not_said g.S.Source g.P.Station d o _ _ _ _ c.in-Ok.ensures c.in-Ok-old_directory_file_of.ensures takes c.args.world.now.station c.changes.new.station c.say.new.self c.bytes.result.now
    (λ t.
    let x = e.report t in
    (x.0, x.1, x.2, c.bytes.ensures ∙ x.3 ∙ ap (λ (text : List ℕ). text ++ changes d o (need o x.0)) c.new-text.ensures))
    e.synced e.cause.later e.cause.say s.cause.later s.disk s.told (s.cause.failed refl)

pub returns-clause-tries : goal.returns-clause-tries
returns-clause-tries g c =
    let d = c.in-Ok.file in
    let o = c.in-Ok-old_directory_file_of.file in
    let takes = subst (λ x. TakesOver x o) c.directory.ensures (subst (λ x. TakesOver c.directory.result.now x) c.directory-2.ensures (c.in_default.ensures.takes_over.0 refl)) in
    let e = c.in_default-changes.ensures in
    let s = c.in-Ok-say.ensures in
    reported g.S.Source g.P.Station d o _ _ _ _ c.in-Ok.ensures c.in-Ok-old_directory_file_of.ensures takes c.args.world.now.station c.changes.new.station c.say.new.self c.bytes.result.now
    (λ t.
    let x = e.report t in
    (x.0, x.1, x.2, c.bytes.ensures ∙ x.3 ∙ ap (λ (text : List ℕ). text ++ changes d o (need o x.0)) c.new-text.ensures))
    e.synced e.cause.later e.cause.say s.cause.later s.disk s.told

pub returns-in-Err-changes-clause-sound : goal.returns-in-Err-changes-clause-sound
returns-in-Err-changes-clause-sound g c = λ is. absurd (refusal_fails c.in-Err-changes.fault (sym c.refusal.ensures ∙ is))
