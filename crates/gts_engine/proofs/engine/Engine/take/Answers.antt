use Rattle.gts_engine.proofs.Cited.{err_from_is_err_and, Taken, common_steps, arith}
use Rattle.gts_engine.proofs.AnsweringLemmas.{no_device_done}
use Rattle.gts_engine.proofs.CallLemmas.{fails_first, fails_behind, done_behind, stops_behind, stops_done, cause_behind, cause_done, never_stopped, device_active, of_fault}
use Rattle.gts_engine.proofs.engine.Engine.take.Goals as goal

pub returns-in_err-outcome-clause-called : goal.returns-in_err-outcome-clause-called
returns-in_err-outcome-clause-called g c =
    let p = err_from_is_err_and c.from_residual.result c.from_residual.ensures.1 in
    rw (p.1, p.2) (fails_first g.P.Station c.args.mode (Taken c.args.c) c.args.self.now c.gather_take.new.self c.gather_take.result (c.gather_take.ensures.called) c.in_err-outcome.field-0.0 c.in_err-outcome.was)

pub returns-in_err-settle-clause-called : goal.returns-in_err-settle-clause-called
returns-in_err-settle-clause-called g c =
    let p = err_from_is_err_and c.from_residual-in_err-settle.result c.from_residual-in_err-settle.ensures.1 in
    rw (p.1, p.2) (fails_behind g.P.Station c.args.mode (Taken c.args.c) c.args.self.now c.gather_take.new.self c.gather_take.result (c.gather_take.ensures.called) c.in_ok-outcome.outcome c.in_ok-outcome.was c.settle.new.self c.settle.result (c.settle.ensures.settles.settling c.args.mode) c.in_err-settle.field-0.0 c.in_err-settle.was c.settle.ensures.kind)

pub returns-clause-called : goal.returns-clause-called
returns-clause-called g c = done_behind g.P.Station c.args.mode (Taken c.args.c) c.args.self.now c.gather_take.new.self c.gather_take.result (c.gather_take.ensures.called) c.in_ok-outcome.outcome c.in_ok-outcome.was c.settle.new.self c.settle.result (c.settle.ensures.settles.settling c.args.mode) c.in_ok-settle.was

pub returns-in_err-settle-clause-stops : goal.returns-in_err-settle-clause-stops
returns-in_err-settle-clause-stops g c = grind (arith, common_steps, err_from_is_err_and, stops_behind)

pub returns-clause-stops : goal.returns-clause-stops
returns-clause-stops g c = stops_done c.args.self.now.stopped c.gather_take.new.self.stopped c.settle.new.self.stopped c.gather_take.result c.settle.result c.gather_take.ensures.stops c.settle.ensures.stops c.in_ok-outcome.outcome c.in_ok-outcome.was c.in_ok-settle.was

pub returns-in_err-settle-clause-cause : goal.returns-in_err-settle-clause-cause
returns-in_err-settle-clause-cause g c = grind (arith, common_steps, err_from_is_err_and, cause_behind, no_device_done)

pub returns-clause-cause : goal.returns-clause-cause
returns-clause-cause g c = cause_done c.gather_take.result c.settle.result _ _ _ _ _ _ c.gather_take.ensures.cause c.settle.ensures.cause (no_device_done c.gather_take.result c.in_ok-outcome.outcome c.in_ok-outcome.was) c.in_ok-outcome.outcome c.in_ok-settle.was

pub returns-in_err-settle-clause-stopped : goal.returns-in_err-settle-clause-stopped
returns-in_err-settle-clause-stopped g c = never_stopped _ c.args.self.now.stopped c.gather_take.result c.in_ok-outcome.outcome _ c.in_ok-outcome.was c.gather_take.ensures.stopped

pub returns-clause-stopped : goal.returns-clause-stopped
returns-clause-stopped g c = never_stopped _ c.args.self.now.stopped c.gather_take.result c.in_ok-outcome.outcome _ c.in_ok-outcome.was c.gather_take.ensures.stopped

pub returns-in_err-settle-clause-unchanged : goal.returns-in_err-settle-clause-unchanged
returns-in_err-settle-clause-unchanged g c = grind (arith, common_steps, err_from_is_err_and, device_active, of_fault)

pub returns-in_err-settle-clause-caller : goal.returns-in_err-settle-clause-caller
returns-in_err-settle-clause-caller g c = grind (arith, common_steps, err_from_is_err_and)

pub returns-in_err-outcome-clause-caller : goal.returns-in_err-outcome-clause-caller
returns-in_err-outcome-clause-caller g c = grind (arith, common_steps, err_from_is_err_and)
