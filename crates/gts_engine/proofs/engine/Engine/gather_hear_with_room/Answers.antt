use Rattle.gts_engine.proofs.Cited.{◌<◌, length, refl, sym, subst, ◌∙◌, err_from_is_err_and, Directory, Station, common_steps, arith}
use Rattle.gts_engine.proofs.RoomingLemmas.{idle_full}
use Rattle.gts_engine.proofs.RoomGatherLemmas.{gathers_plain, going_settled, gathers_nothing, gathers_full, gathers_left, gathers_made}
use Rattle.gts_engine.proofs.AnsweringLemmas.{cause_alike, cause_then, no_device_done, no_device_full}
use Rattle.gts_engine.proofs.IdleLemmas.{no_device}
use Rattle.gts_engine.proofs.engine.Engine.gather_hear_with_room.Goals as goal

pub returns-in_default-clause-called : goal.returns-in_default-clause-called
returns-in_default-clause-called g c = λ mode.
    gathers_plain g.P.Station mode c.args.c c.args.kind c.args.message.now c.gather_hear-answer.result c.args.self.now c.gather_hear-answer.new.self
    (c.gather_hear-answer.ensures.called mode) c.gather_hear-answer.ensures.had_room c.gather_hear-answer.ensures.stopped (sym c.bytes_wanted.ensures ∙ c.in_default.is)

pub returns-in_err-size-clause-called : goal.returns-in_err-size-clause-called
returns-in_err-size-clause-called g c = λ mode.
    let first = c.gather_hear-answer.result in
    let wanted = sym c.bytes_wanted.ensures ∙ c.in-Some.is in
    let p = err_from_is_err_and c.from_residual.result c.from_residual.ensures.1 in
    rw (p.1, p.2, c.in_err-size.ensures.memory)
    (gathers_nothing g.P.Station mode c.args.c c.args.kind c.args.message.now first c.in-Some.bytes wanted c.args.self.now c.gather_hear-answer.new.self
    (c.gather_hear-answer.ensures.called mode) c.gather_hear-answer.ensures.stopped c.gather_hear-answer.ensures.stops (c.gather_hear-answer.ensures.idle (idle_full first c.in-Some.bytes wanted)) c.gather_hear-answer.new.self refl)

pub has_spare-requires : goal.has_spare-requires
has_spare-requires g c =
    let first = c.gather_hear-answer.result in
    let wanted = sym c.bytes_wanted.ensures ∙ c.in-Some.is in
    going_settled g.P.Station Station c.args.c c.args.kind c.args.message.now first c.in-Some.bytes wanted c.args.self.now c.gather_hear-answer.new.self
    (c.gather_hear-answer.ensures.called Station) c.gather_hear-answer.ensures.stopped c.gather_hear-answer.ensures.stops (c.gather_hear-answer.ensures.idle (idle_full first c.in-Some.bytes wanted))

pub returns-then-not-has_spare-clause-called : goal.returns-then-not-has_spare-clause-called
returns-then-not-has_spare-clause-called g c = λ mode.
    let first = c.gather_hear-answer.result in
    let wanted = sym c.bytes_wanted.ensures ∙ c.in-Some.is in
    gathers_full g.P.Station mode c.args.c c.args.kind c.args.message.now first c.in-Some.bytes wanted c.args.self.now c.gather_hear-answer.new.self
    (c.gather_hear-answer.ensures.called mode) c.gather_hear-answer.ensures.stopped c.gather_hear-answer.ensures.stops (c.gather_hear-answer.ensures.idle (idle_full first c.in-Some.bytes wanted))
    c.has_spare.result (λ s holds. c.has_spare.ensures s holds (c.in_ok-size.ensures.size s holds)) c.if-not-has_spare.true

pub returns-in_err-compact_settled-clause-called : goal.returns-in_err-compact_settled-clause-called
returns-in_err-compact_settled-clause-called g c = λ mode.
    let first = c.gather_hear-answer.result in
    let wanted = sym c.bytes_wanted.ensures ∙ c.in-Some.is in
    let p = err_from_is_err_and c.from_residual-in_err-compact_settled.result c.from_residual-in_err-compact_settled.ensures.1 in
    rw (p.1, p.2)
    (gathers_left g.P.Station mode c.args.c c.args.kind c.args.message.now first c.in-Some.bytes wanted c.args.self.now c.gather_hear-answer.new.self
    (c.gather_hear-answer.ensures.called mode) c.gather_hear-answer.ensures.stopped c.gather_hear-answer.ensures.stops (c.gather_hear-answer.ensures.idle (idle_full first c.in-Some.bytes wanted))
    c.has_spare.result (λ s holds. c.has_spare.ensures s holds (c.in_ok-size.ensures.size s holds)) c.if-not-has_spare.false
    c.in_err-compact_settled.field-0.0 c.compact_settled.new.self c.in_err-compact_settled.ensures.compaction c.in_err-compact_settled.ensures.full c.in_err-compact_settled.ensures.kind c.in_err-compact_settled.ensures.unchanged)

pub returns-clause-called : goal.returns-clause-called
returns-clause-called g c = λ mode.
    let first = c.gather_hear-answer.result in
    let wanted = sym c.bytes_wanted.ensures ∙ c.in-Some.is in
    gathers_made g.P.Station mode c.args.c c.args.kind c.args.message.now first c.in-Some.bytes wanted c.args.self.now c.gather_hear-answer.new.self
    (c.gather_hear-answer.ensures.called mode) c.gather_hear-answer.ensures.stopped c.gather_hear-answer.ensures.stops (c.gather_hear-answer.ensures.idle (idle_full first c.in-Some.bytes wanted))
    c.has_spare.result (λ s holds. c.has_spare.ensures s holds (c.in_ok-size.ensures.size s holds)) c.if-not-has_spare.false
    c.compact_settled.new.self c.gather_hear.result c.gather_hear.new.self c.in_ok-compact_settled.ensures.compaction (c.gather_hear.ensures.called mode)

pub compact_settled-requires : goal.compact_settled-requires
compact_settled-requires g c = grind (arith, common_steps, idle_full)

pub gather_hear-requires : goal.gather_hear-requires
gather_hear-requires g c =
    subst (λ (d : Directory). c.args.c < length d.circuits) (sym (c.in_ok-compact_settled.ensures.compaction.directory ∙ (c.gather_hear-answer.ensures.called Station).directory)) c.requires

pub returns-in_err-size-clause-cause : goal.returns-in_err-size-clause-cause
returns-in_err-size-clause-cause g c = grind (arith, common_steps, no_device_full, err_from_is_err_and, no_device)

pub returns-in_err-compact_settled-clause-cause : goal.returns-in_err-compact_settled-clause-cause
returns-in_err-compact_settled-clause-cause g c = grind (arith, common_steps, no_device_full, err_from_is_err_and, cause_alike, cause_then)

pub returns-clause-cause : goal.returns-clause-cause
returns-clause-cause g c = grind (arith, common_steps, no_device_full, cause_then, no_device_done)
