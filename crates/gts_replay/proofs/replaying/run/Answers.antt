use Rattle.gts_replay.proofs.Cited.{◌≡◌, ◌+◌, ℕ, List, [], ◌∷◌, ◌++◌, Result, Err, OnOk, refl, ap, subst, ◌∙◌, arith, length-append, AreStill, DoesStep, ReadsHead, ReplayEnd, SettlesBehind, SettlesFirst, StepFault, head_of, each_connection, common_steps}
use Rattle.gts_replay.specs.declared.head.Head.{Head}
use Rattle.gts_replay.proofs.DecoderLemmas.{decode_each}
use Rattle.gts_replay.proofs.RunLemmas.{runs_none, runs_settled, runs_more}
use Rattle.gts_replay.proofs.EndLemmas.{ends_done, ends_unread, ends_never, ends_step}
use Rattle.gts_replay.proofs.replaying.run.Goals as goal

pub loop-init : goal.loop-init
loop-init g c = record {
  done = (
    [],
    refl,
    runs_none g.W.Switch.meanings c.args.steps.now.kind g.S.Source.observed (g.S.Source.left c.args.capture.now) c.args.switch.now c.args.steps.now c.args.room.now.decoders.items c.requires.begins c.requires.decode,
  );
  directory = refl;
  disk = refl;
  say = refl;
  source = refl;
}

pub returns-in-Ok-End-clause-ends : goal.returns-in-Ok-End-clause-ends
returns-in-Ok-End-clause-ends g c = λ o h start result now settles.
    let done = c.loop.invariant.done in
    let head : Head = c.in-Ok-End.field-0 in
    let left : List ℕ = g.S.Source.left c.next_head.new.capture in
    let reads : ReadsHead g.S.Source.observed (head_of head) c.loop.steps c.next_head.new.steps (g.S.Source.left c.loop.capture) left = c.in-Ok-End.ensures.reads in
    let at_end = subst (λ (h : Head). ReadsHead g.S.Source.observed (head_of h) c.loop.steps c.next_head.new.steps (g.S.Source.left c.loop.capture) left) c.in-Ok-End.field-0-is reads in
    let runs = runs_settled g.W.Switch.meanings c.args.steps.now.kind g.S.Source.observed (g.S.Source.left c.args.capture.now) c.args.switch.now done.0 c.loop.steps (g.S.Source.left c.loop.capture)
    c.loop.room.decoders.items c.loop.switch c.next_head.new.switch done.2 c.in-Ok-End.ensures.settles in
    ends_done g.W.Switch.meanings c.args.steps.now.kind g.W.Switch.observed g.S.Source.observed (g.S.Source.left c.args.capture.now) c.args.switch.now done.0 c.loop.steps (g.S.Source.left c.loop.capture)
    c.loop.room.decoders.items c.next_head.new.switch runs c.next_head.new.steps left left at_end.told (omega (arith, at_end.at, at_end.within)) result now settles o h start

pub returns-in-Err-clause-ends : goal.returns-in-Err-clause-ends
returns-in-Err-clause-ends g c = λ o h start result now settles.
    let meanings = g.W.Switch.meanings in
    let done = c.loop.invariant.done in
    let fault : StepFault = c.in-Err.fault in
    let is : c.next_head.result ≡ Err fault = c.in-Err.is in
    let settling = subst (λ (r : Result Head StepFault). SettlesFirst meanings r c.loop.switch c.next_head.new.switch) is c.next_head.ensures.settles in
    ends_unread meanings c.args.steps.now.kind g.W.Switch.observed g.S.Source.observed (g.S.Source.left c.args.capture.now) c.args.switch.now done.0 c.loop.steps (g.S.Source.left c.loop.capture)
    c.loop.room.decoders.items c.loop.switch done.2 c.next_head.new.steps (g.S.Source.left c.next_head.new.capture) fault c.next_head.new.switch c.requires.few c.next_head.ensures.same
    (λ t at e. c.next_head.ensures.bad t at (is ∙ ap Err e)) (λ t e. c.next_head.ensures.source_fault t (is ∙ ap Err e)) settling
    result now (subst (λ (e : ReplayEnd). SettlesBehind meanings e result c.next_head.new.switch now) c.end_after.ensures settles) o h start

pub do_step-requires-clause-decoders : goal.do_step-requires-clause-decoders
do_step-requires-clause-decoders g c = grind (arith, common_steps, decode_each, each_connection)

pub returns-in-Err-do_step-clause-ends : goal.returns-in-Err-do_step-clause-ends
returns-in-Err-do_step-clause-ends g c = λ o h start result now settles.
    let done = c.loop.invariant.done in
    let fault : StepFault = c.in-Err-do_step.fault in
    let head = head_of c.in-Ok.head in
    let reads : ReadsHead g.S.Source.observed head c.loop.steps c.next_head.new.steps (g.S.Source.left c.loop.capture) (g.S.Source.left c.next_head.new.capture) = c.in-Ok.ensures.reads in
    let runs = runs_settled g.W.Switch.meanings c.args.steps.now.kind g.S.Source.observed (g.S.Source.left c.args.capture.now) c.args.switch.now done.0 c.loop.steps (g.S.Source.left c.loop.capture)
    c.loop.room.decoders.items c.loop.switch c.next_head.new.switch done.2 c.in-Ok.ensures.settles in
    let same : g.W.Switch.meanings.directory c.next_head.new.switch ≡ g.W.Switch.meanings.directory c.args.switch.now = c.next_head.ensures.directory ∙ c.loop.invariant.directory in
    let does = subst (λ (r : Result (Unit {0}) StepFault). DoesStep g.W.Switch.meanings g.W.Switch.observed g.S.Source.observed head r c.next_head.new.steps c.do_step.new.steps (g.S.Source.left c.next_head.new.capture)
    (g.S.Source.left c.do_step.new.capture) c.loop.room.decoders.items c.do_step.new.room.decoders.items c.next_head.new.switch c.do_step.new.switch) c.in-Err-do_step.is c.do_step.ensures.does in
    ends_step g.W.Switch.meanings c.args.steps.now.kind g.W.Switch.observed g.S.Source.observed (g.S.Source.left c.args.capture.now) c.args.switch.now done.0 c.loop.steps c.next_head.new.steps c.do_step.new.steps
    (g.S.Source.left c.loop.capture) (g.S.Source.left c.next_head.new.capture) (g.S.Source.left c.do_step.new.capture) c.loop.room.decoders.items c.do_step.new.room.decoders.items c.next_head.new.switch c.do_step.new.switch head fault
    c.requires.few runs same reads does result now
    (subst (λ (e : ReplayEnd). SettlesBehind g.W.Switch.meanings e result c.do_step.new.switch now) c.end_after-in-Err-do_step.ensures settles) o h start

pub loop-preserved : goal.loop-preserved
loop-preserved g c =
    let done = c.loop.invariant.done in
    let head = head_of c.in-Ok.head in
    let reads : ReadsHead g.S.Source.observed head c.loop.steps c.next_head.new.steps (g.S.Source.left c.loop.capture) (g.S.Source.left c.next_head.new.capture) = c.in-Ok.ensures.reads in
    let runs = runs_settled g.W.Switch.meanings c.args.steps.now.kind g.S.Source.observed (g.S.Source.left c.args.capture.now) c.args.switch.now done.0 c.loop.steps (g.S.Source.left c.loop.capture)
    c.loop.room.decoders.items c.loop.switch c.next_head.new.switch done.2 c.in-Ok.ensures.settles in
    let same : g.W.Switch.meanings.directory c.next_head.new.switch ≡ g.W.Switch.meanings.directory c.args.switch.now = c.next_head.ensures.directory ∙ c.loop.invariant.directory in
    let does = subst (λ (r : Result (Unit {0}) StepFault). DoesStep g.W.Switch.meanings g.W.Switch.observed g.S.Source.observed head r c.next_head.new.steps c.do_step.new.steps (g.S.Source.left c.next_head.new.capture)
    (g.S.Source.left c.do_step.new.capture) c.loop.room.decoders.items c.do_step.new.room.decoders.items c.next_head.new.switch c.do_step.new.switch) c.in_default.is c.do_step.ensures.does in
    let still = subst (λ (r : Result (Unit {0}) StepFault). OnOk r (AreStill (g.W.Switch.disk_faults c.next_head.new.switch) (g.W.Switch.disk_faults c.do_step.new.switch) (g.W.Switch.say_faults c.next_head.new.switch)
    (g.W.Switch.say_faults c.do_step.new.switch) (g.S.Source.faults c.next_head.new.capture) (g.S.Source.faults c.do_step.new.capture))) c.in_default.is c.do_step.ensures.cause.sound in
    let read_still = c.in-Ok.ensures.cause.sound in
    record {
      done = (
        done.0 ++ does.step ∷ [],
        length-append done.0 (does.step ∷ []) ∙ ap (λ (n : ℕ). n + 1) done.1,
        runs_more g.W.Switch.meanings c.args.steps.now.kind g.W.Switch.observed g.S.Source.observed (g.S.Source.left c.args.capture.now) c.args.switch.now done.0 c.loop.steps c.next_head.new.steps c.do_step.new.steps
            (g.S.Source.left c.loop.capture) (g.S.Source.left c.next_head.new.capture) (g.S.Source.left c.do_step.new.capture) c.loop.room.decoders.items c.do_step.new.room.decoders.items c.next_head.new.switch c.do_step.new.switch head runs
            same reads does,
      );
      directory = c.do_step.ensures.directory ∙ same;
      disk = still.0 ∙ read_still.0 ∙ c.loop.invariant.disk;
      say = still.1 ∙ read_still.1 ∙ c.loop.invariant.say;
      source = still.2 ∙ read_still.2 ∙ c.loop.invariant.source;
    }

pub returns-clause-ends : goal.returns-clause-ends
returns-clause-ends g c = λ o h start result now settles.
    let done = c.loop.invariant.done in
    ends_never g.W.Switch.meanings c.args.steps.now.kind g.W.Switch.observed g.S.Source.observed (g.S.Source.left c.args.capture.now) c.args.switch.now done.0 c.loop.steps (g.S.Source.left c.loop.capture)
    c.loop.room.decoders.items c.loop.switch done.2 (g.S.Source.left c.loop.capture) 18446744073709551615 (omega (arith, done.1, c.loop-test.false)) result now settles o h start
