use Rattle.gts_engine.proofs.Cited.{◌<◌, length, refl, subst, sym, err_from_is_err_and, Directory, LineLost, Lost, no_heading, receipt_text, common_steps, arith}
use Rattle.gts_engine.proofs.AnswerLemmas.{receipt_told}
use Rattle.gts_engine.proofs.StepLemmas.{enters_core, lost_step}
use Rattle.gts_engine.proofs.CallLemmas.{failed_active, unsaid_active}
use Rattle.gts_engine.proofs.AnsweringLemmas.{may_directory, may_sound, may_kind, goes_cleared, answers_uncleared, answers_told, answers_choked}
use Rattle.gts_engine.proofs.losing.lose.Goals as goal

pub returns-in_err-make_room-clause-answered : goal.returns-in_err-make_room-clause-answered
returns-in_err-make_room-clause-answered g c = grind (arith, common_steps, err_from_is_err_and, answers_uncleared)

pub returns-clause-answered : goal.returns-clause-answered
returns-clause-answered g c =
    let old = c.args.parts.now in
    let mid = c.make_room.new.parts in
    let clears = c.make_room.ensures.settles in
    let event = Lost c.args.c c.args.field in
    let o = LineLost c.args.field in
    let going = goes_cleared g.P.Station old mid c.make_room.result clears c.in_ok-make_room.was c.requires.going in
    let sound = may_sound g.P.Station c.make_room.result old mid clears c.requires.sound in
    let enters = enters_core g.P.Station event mid going sound (subst (λ (d : Directory). c.args.c < length d.circuits) (sym (may_directory g.P.Station c.make_room.result old mid clears)) c.requires.circuit)
    mid.core o (λ s holds. refl) (lost_step mid.directory mid.core c.args.c c.args.field) mid.within in
    let text = receipt_text c.args.c o no_heading in
    λ mode. answers_told g.P.Station mode event old mid c.make_room.result clears c.in_ok-make_room.was c.requires.going mid o enters
    c.say_receipt.new.parts 0 text c.say_receipt.result c.say_receipt.ensures (λ s h. receipt_told mode text) c.in_ok-say_receipt.was

pub returns-in_err-say_receipt-clause-answered : goal.returns-in_err-say_receipt-clause-answered
returns-in_err-say_receipt-clause-answered g c =
    let old = c.args.parts.now in
    let mid = c.make_room.new.parts in
    let clears = c.make_room.ensures.settles in
    let event = Lost c.args.c c.args.field in
    let o = LineLost c.args.field in
    let going = goes_cleared g.P.Station old mid c.make_room.result clears c.in_ok-make_room.was c.requires.going in
    let sound = may_sound g.P.Station c.make_room.result old mid clears c.requires.sound in
    let enters = enters_core g.P.Station event mid going sound (subst (λ (d : Directory). c.args.c < length d.circuits) (sym (may_directory g.P.Station c.make_room.result old mid clears)) c.requires.circuit)
    mid.core o (λ s holds. refl) (lost_step mid.directory mid.core c.args.c c.args.field) mid.within in
    let text = receipt_text c.args.c o no_heading in
    let p = err_from_is_err_and c.from_residual-in_err-say_receipt.result c.from_residual-in_err-say_receipt.ensures.1 in
    λ mode. rw (p.1, p.2) (answers_choked g.P.Station mode event old mid c.make_room.result clears c.in_ok-make_room.was c.requires.going mid o enters
    c.say_receipt.new.parts 0 text c.say_receipt.result c.say_receipt.ensures (λ s h. receipt_told mode text) c.in_err-say_receipt.field-0.0 c.in_err-say_receipt.was)

pub returns-in_err-make_room-clause-active : goal.returns-in_err-make_room-clause-active
returns-in_err-make_room-clause-active g c = grind (arith, common_steps, err_from_is_err_and, failed_active, may_kind)

pub returns-in_err-say_receipt-clause-active : goal.returns-in_err-say_receipt-clause-active
returns-in_err-say_receipt-clause-active g c = grind (arith, common_steps, err_from_is_err_and, unsaid_active)
