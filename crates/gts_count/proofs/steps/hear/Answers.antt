use Rattle.gts_count.proofs.Cited.{refl, sym, ◌∙◌, err_from_is_err_and, common_steps, arith}
use Rattle.gts_event.specs.declared.event.Event.TheVariants.{Heard}
use Rattle.gts_count.proofs.CountingLemmas.{counts_heard, counts_prepared}
use Rattle.gts_count.proofs.CallLemmas.{counted_call, left_call, unsettled_call}
use Rattle.gts_count.proofs.steps.hear.Goals as goal

pub returns-in-Ok-clause-called : goal.returns-in-Ok-clause-called
returns-in-Ok-clause-called g c =
    counted_call g.T.Switch.meanings (Heard c.args.c c.args.kind c.args.message.now) c.hear-answer.result c.args.parts.now _ c.hear-answer.ensures.called
    (λ o entries events stood told counts.
    counts_heard _ _ entries c.ready.new.counting c.note_heard.new.counting c.args.c c.args.kind c.args.message.now c.in-Ok.ready c.hear-answer.result c.requires.circuit
    (λ current. c.in-Ok.ensures.ready _ _ entries (sym c.in-Ok.ensures.rest.current ∙ current) c.requires.circuit counts)
    c.in-Ok.ensures.note told c.note_heard.ensures.noted
    (counts_prepared _ _ entries c.args.parts.now.counting c.ready.new.counting c.in-Ok.ensures.prepares c.in-Ok.ensures.rest counts))

pub returns-in_err-settle-in-Err-clause-called : goal.returns-in_err-settle-in-Err-clause-called
returns-in_err-settle-in-Err-clause-called g c = grind (arith, common_steps, err_from_is_err_and, unsettled_call, counts_prepared)

pub returns-in_ok-settle-in-Err-clause-called : goal.returns-in_ok-settle-in-Err-clause-called
returns-in_ok-settle-in-Err-clause-called g c =
    left_call g.T.Switch.meanings c.args.c c.args.kind c.args.message.now c.args.parts.now _ c.settle.new.parts c.settle.result c.in_ok-settle-in-Err.field-0 refl
    (λ d s h counts. counts_prepared d s h c.args.parts.now.counting c.ready.new.counting c.in-Err.ensures.prepares c.in-Err.ensures.rest counts)
    (λ d s h counts. c.in-Err.ensures.left d s h c.args.kind counts) c.settle.ensures.settling c.in_ok-settle-in-Err.was c.leave.ensures.leaves
