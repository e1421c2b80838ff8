use Rattle.gts_recovery.proofs.Cited.{◌≡◌, true, List, ℕ, None, subst, ◌∙◌, arith, IsAnswer, Version, fault_sought, opens_in, seen, selected_bytes, version_of, common_steps}
use Rattle.gts_recovery.proofs.EitherLemmas.{not_older}
use Rattle.gts_recovery.proofs.ReadingLemmas.{passed_on}
use Rattle.gts_recovery.proofs.OpenLemmas.{header_answer, started, opened_any, records_answer, same_opened}
use Rattle.gts_recovery.proofs.opening.open_core_any.Goals as goal

pub begin-requires : goal.begin-requires
begin-requires g c = grind (arith, common_steps)

pub returns-clause-opened : goal.returns-clause-opened
returns-clause-opened g c =
    let old = g.P.Station.calls c.args.station.now in
    let v : Version = version_of (selected_bytes (seen old)) in
    let new = g.P.Station.calls c.start_any.new.station in
    opened_any c.args.directory.now old new (g.P.Station.calls c.admit_all.new.station) c.admit_all.new.core c.in_ok-journal.journal c.admit_all.new.journal
    (omega (arith, c.bounds_hold.ensures.greatest))
    (λ tell. started v c.args.directory.now old new c.in_ok-journal.journal (c.in_ok-journal.ensures.synced tell) (c.in_ok-journal.ensures.stands tell)
    (subst (λ (mark : List ℕ). fault_sought true mark (seen old) ≡ None) c.mark.ensures (c.in_ok-journal.ensures.fault tell)) (c.in_ok-journal.ensures.version tell))
    (λ tell. c.admit_all.ensures.looks.told tell ∙ c.in_ok-core.ensures.looks.told tell) (c.in_ok-admit_all.ensures.version ∙ c.in_ok-core.ensures.version)
    (c.in_ok-admit_all.ensures.file ∙ c.in_ok-core.ensures.file) c.in_ok-admit_all.ensures.through

pub returns-in_err-core-clause-fault : goal.returns-in_err-core-clause-fault
returns-in_err-core-clause-fault g c = grind (arith, common_steps, passed_on, records_answer, started)

pub returns-in_err-admit_all-clause-fault : goal.returns-in_err-admit_all-clause-fault
returns-in_err-admit_all-clause-fault g c = λ tell.
    let old = g.P.Station.calls c.args.station.now in
    let v : Version = version_of (selected_bytes (seen old)) in
    let new = g.P.Station.calls c.start_any.new.station in
    let next = g.P.Station.calls c.begin.new.station in
    passed_on (λ e. IsAnswer e (opens_in v c.args.directory.now (seen old))) c.from_residual-in_err-admit_all.result c.in_err-admit_all.field-0.0 c.from_residual-in_err-admit_all.ensures.1
    (records_answer v c.args.directory.now old new c.in_ok-journal.journal c.in_err-admit_all.field-0.0
    (started v c.args.directory.now old new c.in_ok-journal.journal (c.in_ok-journal.ensures.synced tell) (c.in_ok-journal.ensures.stands tell)
    (subst (λ (mark : List ℕ). fault_sought true mark (seen old) ≡ None) c.mark.ensures (c.in_ok-journal.ensures.fault tell)) (c.in_ok-journal.ensures.version tell))
    (same_opened c.args.directory.now new next c.in_ok-journal.journal c.begin.new.journal c.in_err-admit_all.field-0.0 (c.in_ok-core.ensures.looks.told tell) c.in_ok-core.ensures.version
    c.in_ok-core.ensures.file (c.in_err-admit_all.ensures.fault tell)))

pub returns-in_err-journal-clause-fault : goal.returns-in_err-journal-clause-fault
returns-in_err-journal-clause-fault g c = grind (arith, common_steps, passed_on, header_answer)

pub returns-in_err-core-clause-never_older : goal.returns-in_err-core-clause-never_older
returns-in_err-core-clause-never_older g c = λ tell.
    not_older c.args.directory.now (seen (g.P.Station.calls c.args.station.now)) c.from_residual-in_err-core.result (returns-in_err-core-clause-fault g c tell)

pub returns-in_err-admit_all-clause-never_older : goal.returns-in_err-admit_all-clause-never_older
returns-in_err-admit_all-clause-never_older g c = λ tell.
    not_older c.args.directory.now (seen (g.P.Station.calls c.args.station.now)) c.from_residual-in_err-admit_all.result (returns-in_err-admit_all-clause-fault g c tell)

pub returns-in_err-journal-clause-never_older : goal.returns-in_err-journal-clause-never_older
returns-in_err-journal-clause-never_older g c = grind (arith, common_steps, not_older, returns-in_err-journal-clause-fault)
