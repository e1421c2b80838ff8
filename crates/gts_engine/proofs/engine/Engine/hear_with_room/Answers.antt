use Rattle.gts_engine.proofs.Cited.{◌<◌, length, sym, subst, err_from_is_err_and, Directory, Heard, Station}
use Rattle.gts_engine.proofs.FirstLemmas.{heard_settled, heard_unsettled}
use Rattle.gts_engine.proofs.AnsweringLemmas.{cause_then, no_device_done}
use Rattle.gts_engine.proofs.engine.Engine.hear_with_room.Goals as goal

pub hear_with_room_settled-requires-clause-circuit : goal.hear_with_room_settled-requires-clause-circuit
hear_with_room_settled-requires-clause-circuit g c = subst (λ (d : Directory). c.args.c < length d.circuits) (sym (c.settle.ensures.settles.settling Station).directory) c.requires

pub hear_with_room_settled-requires-clause-settled : goal.hear_with_room_settled-requires-clause-settled
hear_with_room_settled-requires-clause-settled g c = c.settle.ensures.settles.emptied

pub returns-in_err-settle-clause-called : goal.returns-in_err-settle-clause-called
returns-in_err-settle-clause-called g c =
    let p = err_from_is_err_and c.from_residual.result c.from_residual.ensures.1 in
    λ mode. rw (p.1, p.2) (heard_unsettled g.P.Station c.args.self.now c.settle.new.self c.settle.result c.settle.ensures.settles.settling mode (Heard c.args.c c.args.kind c.args.message.now) c.in_err-settle.field-0.0 c.in_err-settle.was)

pub returns-clause-called : goal.returns-clause-called
returns-clause-called g c = λ mode.
    heard_settled g.P.Station c.args.self.now c.settle.new.self c.settle.result c.settle.ensures.settles.settling mode (Heard c.args.c c.args.kind c.args.message.now) c.hear_with_room_settled.result c.hear_with_room_settled.new.self (c.hear_with_room_settled.ensures.called mode)

pub returns-clause-cause : goal.returns-clause-cause
returns-clause-cause g c = cause_then c.settle.result c.hear_with_room_settled.result _ _ _ _ _ _ (no_device_done c.settle.result tt c.in_ok-settle.was) c.settle.ensures.cause c.hear_with_room_settled.ensures.cause
