use Rattle.gts_replay.proofs.Cited.{sym, ◌∙◌, arith, false≢true, err_from_is_err_and, common_steps}
use Rattle.gts_replay.proofs.DrainLemmas.{drained_more, drained_all, drained_breaks, drained_few}
use Rattle.gts_replay.proofs.draining.drain.Goals as goal

pub returns-in_err-outcome-clause-goes : goal.returns-in_err-outcome-clause-goes
returns-in_err-outcome-clause-goes g c = λ o first h start.
    let p = err_from_is_err_and c.from_residual.result c.from_residual.ensures.1 in
    rw (p.1, p.2) (drained_breaks g.W.Switch.meanings c.args.switch.now o first h c.args.c c.loop.switch c.take.new.self c.loop.counter c.take.result c.loop.invariant.directory
    (c.loop.invariant.drained o first h start) c.take.ensures.called c.in_err-outcome.field-0.0 c.in_err-outcome.was)

pub returns-then-is_nothing-clause-goes : goal.returns-then-is_nothing-clause-goes
returns-then-is_nothing-clause-goes g c = grind (arith, common_steps, drained_all)

pub loop-preserved : goal.loop-preserved
loop-preserved g c = record {
  drained = λ o first h start.
      drained_more g.W.Switch.meanings c.args.switch.now o first h c.args.c c.loop.switch c.take.new.self c.loop.counter c.take.result c.loop.invariant.directory
      (c.loop.invariant.drained o first h start) c.take.ensures.called c.in_ok-outcome.outcome start c.requires.circuit c.in_ok-outcome.was
      (λ e. false≢true (sym c.if-is_nothing.false ∙ c.is_nothing.ensures.nothing.1 e)) c.is_nothing.ensures.few;
  directory = c.take.ensures.called.directory ∙ c.loop.invariant.directory;
  disk = c.take.ensures.cause.disk_still (λ e. cc (sym c.in_ok-outcome.was ∙ e)) ∙ c.loop.invariant.disk;
  say = c.take.ensures.cause.say_still (λ e. cc (sym c.in_ok-outcome.was ∙ e)) ∙ c.loop.invariant.say;
}

pub returns-clause-goes : goal.returns-clause-goes
returns-clause-goes g c = grind (arith, common_steps, drained_few)
