use Rattle.gts_migrate.proofs.Cited.{◌≡◌, ◌∷◌, ◌∙◌, ℕ, inl, inr, ap, List, Option, None, Result, Ok, Err, sym, subst, arith, err_from_is_err_and, append-nil, AnswersOpening, AnswersWaiting, Call, Did, DiskFault, Dropped, EachSince, Full, IsPreparedFaultOf, IsRoomAnswer, MigrateFault, Need, NoMemory, Open, OpenFault, OpensEither, OpensWith, Outside, Refused, SayFault, SaysFor, State, Syncs, Waiting, Waits, full_compacted, goes_on, need, need_of, on, opens_any, restarted, said_by, sayings, seen, waits_on_closed, syncs_silent, common_steps}
use Rattle.gts_migrate.proofs.DroppingLemmas.{sayings_again, nothing_refused, no_bytes}
use Rattle.gts_migrate.proofs.MigratingLemmas.{few_due, fits_for, can_migrate, state_is, need_is, opens_so, at_rest, room_after, waiting_after, opening_after, told_after, migrated_after, said_after, silent_by, counts_after}
use Rattle.gts_migrate.proofs.migrating.take_over.Goals as goal

-- where it was prepared, nothing waits, or it is dropped
waiting_done : {T : Type 0} (w : Waiting) (found : Option (ℕ × ℕ)) (done : T) → AnswersWaiting {T = T} w (Ok done) found → AnswersWaiting {T = Unit {0}} w (Ok tt) found
waiting_done Refused found done is = is
waiting_done Dropped found done is = is

-- and where it failed
waiting_failed : (T : Type 0) (w : Waiting) (found : Option (ℕ × ℕ)) (fault : MigrateFault) → AnswersWaiting {T = T} w (Err fault) found → AnswersWaiting {T = Unit {0}} w (Err fault) found
waiting_failed T Refused found (Open e) is = is
waiting_failed T Refused found _ is = is
waiting_failed T Dropped found (Open e) is = is
waiting_failed T Dropped found _ is = is

pub prepare-prepared-requires-clause-due : goal.prepare-prepared-requires-clause-due
prepare-prepared-requires-clause-due g c =
    few_due g.P.Station.observed c.args.old.now c.args.new.now c.requires (g.P.Station.calls c.open_core_any.new.station) c.in_ok-core.core c.in_ok-core.journal c.in_ok-core.ensures.opened
    (omega (arith, c.bounds_hold.ensures.greatest))

pub rewrite-requires-clause-fits : goal.rewrite-requires-clause-fits
rewrite-requires-clause-fits g c =
    let old = c.args.old.now in
    let new = c.args.new.now in
    let mid = g.P.Station.calls c.open_core_any.new.station in
    let core = c.in_ok-core.core in
    let j = c.in_ok-core.journal in
    let o = c.in_ok-core.ensures.opened in
    let n = need_of c.in_ok-prepared.prepared.need in
    let brought = c.in_ok-prepared.ensures.brought in
    fits_for g.P.Station.observed old new c.requires mid core j o n brought (c.in_ok-prepared.ensures.room o.state o.kept.holds)

pub returns-clause-moments : goal.returns-clause-moments
returns-clause-moments g c = λ tell k was is.
    let old = c.args.old.now in
    let new = c.args.new.now in
    let mid = g.P.Station.calls c.open_core_any.new.station in
    let core = c.in_ok-core.core in
    let j = c.in_ok-core.journal in
    let o = c.in_ok-core.ensures.opened in
    let n = need_of c.in_ok-prepared.prepared.need in
    let brought = c.in_ok-prepared.ensures.brought in
    let before = g.P.Station.calls c.args.station.now in
    let synced = c.in_ok-core.ensures.synced tell in
    let after = g.P.Station.calls c.rewrite.new.station in
    let can = can_migrate g.P.Station.observed old new c.requires mid core j o n brought c.in_ok-prepared.ensures.keeps tell in
    let each = c.rewrite.ensures.moments tell old o.state can in
    let text = c.in_ok-prepared.ensures.text o.state o.kept.holds ∙ sym (sayings_again c.args.waiting new old o.state) in
    let same = subst (λ (l : Outside). EachSince mid after (OpensWith l old new (need old (restarted old o.state)))) text each in
    let here = subst (λ (calls : List Call). EachSince calls after (OpensEither c.args.waiting old new (need old (restarted old o.state)))) synced same in
    subst (λ (m : Need). EachSince (Did Syncs ∷ before) after (OpensEither c.args.waiting old new m)) (need_is g.P.Station.observed old new c.requires mid core j o tell before synced k is) here

pub returns-clause-migrated : goal.returns-clause-migrated
returns-clause-migrated g c = λ tell s used is.
    let old = c.args.old.now in
    let new = c.args.new.now in
    let mid = g.P.Station.calls c.open_core_any.new.station in
    let core = c.in_ok-core.core in
    let j = c.in_ok-core.journal in
    let o = c.in_ok-core.ensures.opened in
    let n = need_of c.in_ok-prepared.prepared.need in
    let brought = c.in_ok-prepared.ensures.brought in
    let before = g.P.Station.calls c.args.station.now in
    let synced = c.in_ok-core.ensures.synced tell in
    let can = can_migrate g.P.Station.observed old new c.requires mid core j o n brought c.in_ok-prepared.ensures.keeps tell in
    migrated_after c.rewrite.result old new o.state s n before mid (g.P.Station.calls c.rewrite.new.station) j synced
    (state_is g.P.Station.observed old new c.requires mid core j o tell before synced s used is) can (c.rewrite.ensures.written tell)

pub returns-clause-full : goal.returns-clause-full
returns-clause-full g c = λ tell s used is.
    let old = c.args.old.now in
    let new = c.args.new.now in
    let mid = g.P.Station.calls c.open_core_any.new.station in
    let core = c.in_ok-core.core in
    let j = c.in_ok-core.journal in
    let o = c.in_ok-core.ensures.opened in
    let before = g.P.Station.calls c.args.station.now in
    let synced = c.in_ok-core.ensures.synced tell in
    let same = state_is g.P.Station.observed old new c.requires mid core j o tell before synced s used is in
    let free : full_compacted new (goes_on new old (need old o.state)) ≡ None = c.in_ok-prepared.ensures.room o.state o.kept.holds in
    room_after c.rewrite.result new (goes_on new old (need old s)) c.rewrite.ensures.kind
    (subst (λ (t : State). full_compacted new (goes_on new old (need old t)) ≡ None) (sym same) free)

pub returns-clause-waiting : goal.returns-clause-waiting
returns-clause-waiting g c = λ tell s used is.
    let old = c.args.old.now in
    let new = c.args.new.now in
    let mid = g.P.Station.calls c.open_core_any.new.station in
    let core = c.in_ok-core.core in
    let j = c.in_ok-core.journal in
    let o = c.in_ok-core.ensures.opened in
    let before = g.P.Station.calls c.args.station.now in
    let synced = c.in_ok-core.ensures.synced tell in
    let same = state_is g.P.Station.observed old new c.requires mid core j o tell before synced s used is in
    let none = c.in_ok-prepared.ensures.waiting o.state o.kept.holds in
    waiting_after c.args.waiting c.rewrite.result (waits_on_closed new (need old s)) c.rewrite.ensures.kind
    (subst (λ (t : State). AnswersWaiting {T = Unit {0}} c.args.waiting (Ok tt) (waits_on_closed new (need old t))) (sym same) (waiting_done c.args.waiting (waits_on_closed new (need old o.state)) c.in_ok-prepared.prepared none))

pub returns-clause-opening : goal.returns-clause-opening
returns-clause-opening g c = λ tell.
    let old = c.args.old.now in
    let new = c.args.new.now in
    let mid = g.P.Station.calls c.open_core_any.new.station in
    let core = c.in_ok-core.core in
    let j = c.in_ok-core.journal in
    let o = c.in_ok-core.ensures.opened in
    let before = g.P.Station.calls c.args.station.now in
    let synced = c.in_ok-core.ensures.synced tell in
    opening_after c.rewrite.result (opens_any old (seen before)) (need old (restarted old o.state)) c.rewrite.ensures.kind
    (opens_so g.P.Station.observed old new c.requires mid core j o tell before synced)

pub returns-clause-told : goal.returns-clause-told
returns-clause-told g c = λ tell leaves.
    told_after g.P.Station.calls c.rewrite.result c.args.station.now c.open_core_any.new.station c.rewrite.new.station c.rewrite.ensures.kind c.rewrite.ensures.no_memory
    (c.in_ok-core.ensures.told tell) leaves

pub returns-in_err-prepared-clause-moments : goal.returns-in_err-prepared-clause-moments
returns-in_err-prepared-clause-moments g c = λ tell k was is.
    let old = c.args.old.now in
    let new = c.args.new.now in
    let mid = g.P.Station.calls c.open_core_any.new.station in
    let core = c.in_ok-core.core in
    let j = c.in_ok-core.journal in
    let o = c.in_ok-core.ensures.opened in
    let before = g.P.Station.calls c.args.station.now in
    let synced = c.in_ok-core.ensures.synced tell in
    subst (λ (m : Need). EachSince (Did Syncs ∷ before) mid (OpensEither c.args.waiting old new m)) (need_is g.P.Station.observed old new c.requires mid core j o tell before synced k is)
    (at_rest g.P.Station.observed old new c.requires mid core j o tell before synced (sayings c.args.waiting new (need old (restarted old o.state))))

pub returns-in_err-prepared-clause-full : goal.returns-in_err-prepared-clause-full
returns-in_err-prepared-clause-full g c = λ tell s used is.
    let old = c.args.old.now in
    let new = c.args.new.now in
    let mid = g.P.Station.calls c.open_core_any.new.station in
    let core = c.in_ok-core.core in
    let j = c.in_ok-core.journal in
    let o = c.in_ok-core.ensures.opened in
    let before = g.P.Station.calls c.args.station.now in
    let synced = c.in_ok-core.ensures.synced tell in
    let p = err_from_is_err_and c.from_residual-in_err-prepared.result c.from_residual-in_err-prepared.ensures.1 in
    rw (p.1, p.2)
    (subst (λ (t : State). IsRoomAnswer c.in_err-prepared.field-0.0 new (goes_on new old (need old t))) (sym (state_is g.P.Station.observed old new c.requires mid core j o tell before synced s used is))
    (c.in_err-prepared.ensures.room o.state o.kept.holds))

-- where it was refused before anything was written, the files opened
opening_before : (fault : MigrateFault) (opened : Result Need OpenFault) (n : Need) → IsPreparedFaultOf fault → opened ≡ Ok n → AnswersOpening (Err fault) opened
opening_before (Waits circuit count) opened n kind is = (n, is)
opening_before (Full at wanted limit) opened n kind is = (n, is)
opening_before NoMemory opened n kind is = (n, is)
opening_before _ opened n kind is = absurd kind

pub returns-in_err-prepared-clause-opening : goal.returns-in_err-prepared-clause-opening
returns-in_err-prepared-clause-opening g c = λ tell.
    let old = c.args.old.now in
    let new = c.args.new.now in
    let mid = g.P.Station.calls c.open_core_any.new.station in
    let core = c.in_ok-core.core in
    let j = c.in_ok-core.journal in
    let o = c.in_ok-core.ensures.opened in
    let before = g.P.Station.calls c.args.station.now in
    let synced = c.in_ok-core.ensures.synced tell in
    let p = err_from_is_err_and c.from_residual-in_err-prepared.result c.from_residual-in_err-prepared.ensures.1 in
    rw (p.1, p.2)
    (opening_before c.in_err-prepared.field-0.0 (opens_any old (seen before)) (need old (restarted old o.state)) c.in_err-prepared.ensures.kind
    (opens_so g.P.Station.observed old new c.requires mid core j o tell before synced))

pub returns-in_err-prepared-clause-waiting : goal.returns-in_err-prepared-clause-waiting
returns-in_err-prepared-clause-waiting g c = λ tell s used is.
    let old = c.args.old.now in
    let new = c.args.new.now in
    let mid = g.P.Station.calls c.open_core_any.new.station in
    let core = c.in_ok-core.core in
    let j = c.in_ok-core.journal in
    let o = c.in_ok-core.ensures.opened in
    let before = g.P.Station.calls c.args.station.now in
    let synced = c.in_ok-core.ensures.synced tell in
    let p = err_from_is_err_and c.from_residual-in_err-prepared.result c.from_residual-in_err-prepared.ensures.1 in
    rw (p.1, p.2)
    (subst (λ (t : State). AnswersWaiting {T = Unit {0}} c.args.waiting (Err c.in_err-prepared.field-0.0) (waits_on_closed new (need old t)))
    (sym (state_is g.P.Station.observed old new c.requires mid core j o tell before synced s used is))
    (waiting_failed _ c.args.waiting (waits_on_closed new (need old o.state)) c.in_err-prepared.field-0.0 (c.in_err-prepared.ensures.waiting o.state o.kept.holds)))

pub returns-clause-said : goal.returns-clause-said
returns-clause-said g c = λ tell s used is.
    let old = c.args.old.now in
    let new = c.args.new.now in
    let mid = g.P.Station.calls c.open_core_any.new.station in
    let core = c.in_ok-core.core in
    let j = c.in_ok-core.journal in
    let o = c.in_ok-core.ensures.opened in
    let before = g.P.Station.calls c.args.station.now in
    let synced = c.in_ok-core.ensures.synced tell in
    let after = g.P.Station.calls c.rewrite.new.station in
    let bytes = c.in_ok-prepared.prepared.receipts.items in
    let same = state_is g.P.Station.observed old new c.requires mid core j o tell before synced s used is in
    let text = c.in_ok-prepared.ensures.text o.state o.kept.holds ∙ ap (λ (t : State). sayings c.args.waiting new (need old t)) (sym same) in
    said_after c.rewrite.result (sayings c.args.waiting new (need old s)) before mid after synced
    (subst (λ (l : Outside). SaysFor c.rewrite.result l mid after) text (c.rewrite.ensures.said tell))

pub returns-clause-silent : goal.returns-clause-silent
returns-clause-silent g c = λ tell why.
    let old = c.args.old.now in
    let new = c.args.new.now in
    let mid = g.P.Station.calls c.open_core_any.new.station in
    let core = c.in_ok-core.core in
    let j = c.in_ok-core.journal in
    let o = c.in_ok-core.ensures.opened in
    let before = g.P.Station.calls c.args.station.now in
    let synced = c.in_ok-core.ensures.synced tell in
    let after = g.P.Station.calls c.rewrite.new.station in
    let bytes = c.in_ok-prepared.prepared.receipts.items in
    let told = told_after g.P.Station.calls c.rewrite.result c.args.station.now c.open_core_any.new.station c.rewrite.new.station c.rewrite.ensures.kind c.rewrite.ensures.no_memory
    (c.in_ok-core.ensures.told tell) in
    elim why [
      | inl refused ↦
          silent_by c.rewrite.result (on 0 bytes) mid after (c.in_ok-prepared.ensures.text o.state o.kept.holds ∙ nothing_refused c.args.waiting new (need old o.state) refused) (c.rewrite.ensures.said tell)
          ∙ ap said_by synced
      | inr leaves ↦ syncs_silent before after (told leaves)
    ]

pub returns-clause-counts : goal.returns-clause-counts
returns-clause-counts g c =
    counts_after g.P.Station c.rewrite.result c.args.station.now c.open_core_any.new.station c.rewrite.new.station c.in_ok-core.ensures.cause.sound c.in_ok-core.ensures.cause.say c.rewrite.ensures.counts

pub returns-clause-unsaid : goal.returns-clause-unsaid
returns-clause-unsaid g c = λ refused is.
    let o = c.in_ok-core.ensures.opened in
    let bytes = c.in_ok-prepared.prepared.receipts.items in
    c.rewrite.ensures.unsaid
    (no_bytes bytes (c.in_ok-prepared.ensures.text o.state o.kept.holds ∙ nothing_refused c.args.waiting c.args.new.now (need c.args.old.now o.state) refused)) is

-- where it was refused before anything was written, nothing was said
unsaid_before : (fault : MigrateFault) (text : Outside) (before mid : List Call) → IsPreparedFaultOf fault → said_by mid ≡ said_by before → SaysFor (Err fault) text before mid
unsaid_before (Waits circuit count) text before mid kind same = same ∙ sym (append-nil (said_by before))
unsaid_before (Full at wanted limit) text before mid kind same = same ∙ sym (append-nil (said_by before))
unsaid_before NoMemory text before mid kind same = same ∙ sym (append-nil (said_by before))
unsaid_before _ text before mid kind same = absurd kind

pub returns-in_err-prepared-clause-said : goal.returns-in_err-prepared-clause-said
returns-in_err-prepared-clause-said g c = λ tell s used is.
    let mid = g.P.Station.calls c.open_core_any.new.station in
    let before = g.P.Station.calls c.args.station.now in
    let p = err_from_is_err_and c.from_residual-in_err-prepared.result c.from_residual-in_err-prepared.ensures.1 in
    rw (p.1, p.2)
    (unsaid_before c.in_err-prepared.field-0.0 (sayings c.args.waiting c.args.new.now (need c.args.old.now s)) before mid c.in_err-prepared.ensures.kind
    (syncs_silent before mid (c.in_ok-core.ensures.told tell)))

pub returns-in_err-prepared-clause-silent : goal.returns-in_err-prepared-clause-silent
returns-in_err-prepared-clause-silent g c = grind (arith, common_steps, syncs_silent)
