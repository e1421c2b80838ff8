use Rattle.gts_engine.proofs.Cited.{Option, ap, ◌∙◌, Device, stopped_after, err_from_is_err_and, common_steps, arith}
use Rattle.gts_engine.proofs.CallLemmas.{never_settled, then_stopped, nothing_failed}
use Rattle.gts_engine.proofs.FirstLemmas.{compacts_settled, compacts_unsettled}
use Rattle.gts_engine.proofs.AnsweringLemmas.{cause_then, no_device_done}
use Rattle.gts_engine.proofs.engine.Engine.compact.Goals as goal

pub compact_settled-requires : goal.compact_settled-requires
compact_settled-requires g c = c.settle.ensures.settles.emptied

pub returns-in_err-settle-clause-compaction : goal.returns-in_err-settle-clause-compaction
returns-in_err-settle-clause-compaction g c =
    let p = err_from_is_err_and c.from_residual.result c.from_residual.ensures.1 in
    rw (p.1, p.2) (compacts_unsettled g.P.Station c.args.self.now c.settle.new.self c.settle.result c.settle.ensures.settles.settling c.in_err-settle.field-0.0 c.in_err-settle.was)

pub returns-clause-compaction : goal.returns-clause-compaction
returns-clause-compaction g c = compacts_settled g.P.Station c.args.self.now c.settle.new.self c.settle.result c.settle.ensures.settles.settling c.compact_settled.result c.compact_settled.new.self c.compact_settled.ensures.compaction

pub returns-clause-cause : goal.returns-clause-cause
returns-clause-cause g c = cause_then c.settle.result c.compact_settled.result _ _ _ _ _ _ (no_device_done c.settle.result tt c.in_ok-settle.was) c.settle.ensures.cause c.compact_settled.ensures.cause

pub returns-in_err-settle-clause-stopped : goal.returns-in_err-settle-clause-stopped
returns-in_err-settle-clause-stopped g c = never_settled _ c.args.self.now.stopped c.settle.result c.in_err-settle.field-0.0 _ c.in_err-settle.was c.settle.ensures.stopped

pub returns-clause-stopped : goal.returns-clause-stopped
returns-clause-stopped g c = grind (arith, common_steps, then_stopped)

pub returns-in_err-settle-clause-moments : goal.returns-in_err-settle-clause-moments
returns-in_err-settle-clause-moments g c = λ tell going none. nothing_failed c.settle.result c.in_err-settle.field-0.0 c.in_err-settle.was (c.settle.ensures.settles.nothing none)

pub returns-in_err-settle-clause-written : goal.returns-in_err-settle-clause-written
returns-in_err-settle-clause-written g c = λ tell none. nothing_failed c.settle.result c.in_err-settle.field-0.0 c.in_err-settle.was (c.settle.ensures.settles.nothing none)

pub returns-in_err-settle-clause-full : goal.returns-in_err-settle-clause-full
returns-in_err-settle-clause-full g c = λ s going none holds. nothing_failed c.settle.result c.in_err-settle.field-0.0 c.in_err-settle.was (c.settle.ensures.settles.nothing none)

pub returns-in_err-settle-clause-kind : goal.returns-in_err-settle-clause-kind
returns-in_err-settle-clause-kind g c = λ none. nothing_failed c.settle.result c.in_err-settle.field-0.0 c.in_err-settle.was (c.settle.ensures.settles.nothing none)

pub returns-in_err-settle-clause-unchanged : goal.returns-in_err-settle-clause-unchanged
returns-in_err-settle-clause-unchanged g c = λ none. nothing_failed c.settle.result c.in_err-settle.field-0.0 c.in_err-settle.was (c.settle.ensures.settles.nothing none)

pub returns-clause-moments : goal.returns-clause-moments
returns-clause-moments g c = grind (arith, common_steps)

pub returns-clause-written : goal.returns-clause-written
returns-clause-written g c = grind (arith, common_steps)

pub returns-clause-full : goal.returns-clause-full
returns-clause-full g c = grind (arith, common_steps)

pub returns-clause-unchanged : goal.returns-clause-unchanged
returns-clause-unchanged g c = grind (arith, common_steps)

pub returns-clause-kind : goal.returns-clause-kind
returns-clause-kind g c = λ none. c.compact_settled.ensures.kind

pub returns-clause-stops : goal.returns-clause-stops
returns-clause-stops g c = c.compact_settled.ensures.stops ∙ ap (λ (by : Option Device). stopped_after by c.compact_settled.result) (c.settle.ensures.stops ∙ ap (stopped_after c.args.self.now.stopped) c.in_ok-settle.was)
