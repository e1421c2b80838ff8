use Rattle.gts_gap.proofs.Cited.{◌≡◌, ◌+◌, ◌++◌, ℕ, [], ◌∷◌, length, Result, Err, ap, subst, ◌∙◌, arith, err_from_is_err_and, Bad, CaptureFault, Comes, DoesStep, End, SourceFault, line_of, ReadsHead, common_steps}
use Rattle.std.proofs.Common.{length-append}
use Rattle.gts_gap.specs.Cited.{Head, head_of}
use Rattle.gts_gap.proofs.MissingRunLemmas.{runs_none, runs_more, ends_done, ends_bad, ends_in_step, ends_never}
use Rattle.gts_gap.proofs.reading.run.Goals as goal

pub loop-init : goal.loop-init
loop-init g c = grind (arith, common_steps, runs_none)

pub returns-in-End-clause-comes : goal.returns-in-End-clause-comes
returns-in-End-clause-comes g c = λ d new.
    let done = c.loop.invariant.done d new in
    let e = c.in_ok-head.ensures in
    let is : c.in_ok-head.head ≡ End = c.in-End.is in
    ends_done g.S.Source.observed d (g.S.Source.left c.args.capture.now) done.0 c.loop.steps c.next.new.self (g.S.Source.left c.loop.capture) (g.S.Source.left c.next.new.source) c.loop.decoders c.loop.table done.2
    (λ t. e.told t ∙ ap (λ (head : Head). line_of head ++ (c.next.new.self.ahead ++ g.S.Source.left c.next.new.source)) is)
    (let place : c.next.new.self.at ≡ c.loop.steps.at + length (line_of End) = e.at ∙ ap (λ (head : Head). c.loop.steps.at + length (line_of head)) is in
    omega (arith, place, e.within))

pub returns-in_err-head-clause-comes : goal.returns-in_err-head-clause-comes
returns-in_err-head-clause-comes g c = λ d new.
    let done = c.loop.invariant.done d new in
    let C : CaptureFault → Type 0 = λ fault. Comes g.S.Source.observed d (Err fault) c.loop.table (g.S.Source.left c.args.capture.now) in
    let go : (fault : CaptureFault) → c.next.result ≡ Err fault → C fault = elim [
      | Bad at ↦ λ is. ends_bad g.S.Source.observed d (g.S.Source.left c.args.capture.now) done.0 c.loop.steps (g.S.Source.left c.loop.capture) c.loop.decoders c.loop.table at done.2 (λ t. c.next.ensures.bad t at is)
      | SourceFault ↦ λ is. tt
    ] in
    let p = err_from_is_err_and c.from_residual.result c.from_residual.ensures.1 in
    rw (p.1, p.2) (go c.in_err-head.field-0.0 c.in_err-head.was)

pub returns-in_err-do_step-clause-comes : goal.returns-in_err-do_step-clause-comes
returns-in_err-do_step-clause-comes g c = λ d new.
    let done = c.loop.invariant.done d new in
    let head = head_of c.in_ok-head.head in
    let reads : ReadsHead g.S.Source.observed head c.loop.steps c.next.new.self (g.S.Source.left c.loop.capture) (g.S.Source.left c.next.new.source) =
    record { told = c.in_ok-head.ensures.told; valid = c.in_ok-head.ensures.valid; feed = c.in_ok-head.ensures.feed; at = c.in_ok-head.ensures.at; within = c.in_ok-head.ensures.within; same = c.next.ensures.same } in
    let D : CaptureFault → Type 0 = λ fault. DoesStep g.S.Source.observed head (Err fault) c.next.new.self c.do_step.new.steps (g.S.Source.left c.next.new.source) (g.S.Source.left c.do_step.new.capture)
    c.loop.decoders c.do_step.new.decoders c.loop.table c.do_step.new.table in
    let does : D c.in_err-do_step.field-0.0 = subst (λ (r : Result (Unit {0}) CaptureFault). DoesStep g.S.Source.observed head r c.next.new.self c.do_step.new.steps (g.S.Source.left c.next.new.source) (g.S.Source.left c.do_step.new.capture)
    c.loop.decoders c.do_step.new.decoders c.loop.table c.do_step.new.table) c.in_err-do_step.was c.do_step.ensures.does in
    let C : CaptureFault → Type 0 = λ fault. Comes g.S.Source.observed d (Err fault) c.do_step.new.table (g.S.Source.left c.args.capture.now) in
    let go : (fault : CaptureFault) → D fault → C fault = elim [
      | Bad at ↦ λ ends. ends_in_step g.S.Source.observed d (g.S.Source.left c.args.capture.now) done.0 c.loop.steps c.next.new.self (g.S.Source.left c.loop.capture) (g.S.Source.left c.next.new.source)
          c.loop.decoders c.loop.table head at done.2 reads ends
      | SourceFault ↦ λ ends. tt
    ] in
    let p = err_from_is_err_and c.from_residual-in_err-do_step.result c.from_residual-in_err-do_step.ensures.1 in
    rw (p.1, p.2) (go c.in_err-do_step.field-0.0 does)

pub loop-preserved : goal.loop-preserved
loop-preserved g c =
    let head = head_of c.in_ok-head.head in
    let reads : ReadsHead g.S.Source.observed head c.loop.steps c.next.new.self (g.S.Source.left c.loop.capture) (g.S.Source.left c.next.new.source) =
    record { told = c.in_ok-head.ensures.told; valid = c.in_ok-head.ensures.valid; feed = c.in_ok-head.ensures.feed; at = c.in_ok-head.ensures.at; within = c.in_ok-head.ensures.within; same = c.next.ensures.same } in
    let does = subst (λ (r : Result (Unit {0}) CaptureFault). DoesStep g.S.Source.observed head r c.next.new.self c.do_step.new.steps (g.S.Source.left c.next.new.source)
    (g.S.Source.left c.do_step.new.capture) c.loop.decoders c.do_step.new.decoders c.loop.table c.do_step.new.table) c.in_ok-do_step.was c.do_step.ensures.does in
    let same = does.taken.same in
    record {
      done = λ d new.
          let done = c.loop.invariant.done d new in (
            done.0 ++ does.step ∷ [],
            length-append done.0 (does.step ∷ []) ∙ ap (λ (n : ℕ). n + 1) done.1,
            runs_more g.S.Source.observed d (g.S.Source.left c.args.capture.now) done.0 c.loop.steps c.next.new.self c.do_step.new.steps (g.S.Source.left c.loop.capture) (g.S.Source.left c.next.new.source)
                (g.S.Source.left c.do_step.new.capture) c.loop.decoders c.do_step.new.decoders c.loop.table c.do_step.new.table head done.2 reads does c.do_step.ensures.circuits,
          );
      of_kind = same.kind ∙ c.next.ensures.same.kind ∙ c.loop.invariant.of_kind;
      taken = does.whole;
      here = same.circuits ∙ c.next.ensures.same.circuits ∙ c.loop.invariant.here;
      circuits = c.do_step.ensures.circuits ∙ c.loop.invariant.circuits;
      decoders = does.circuits ∙ c.loop.invariant.decoders;
      sound = c.in_ok-do_step.ensures.cause.sound ∙ c.in_ok-head.ensures.cause.sound ∙ c.loop.invariant.sound;
    }

pub returns-clause-comes : goal.returns-clause-comes
returns-clause-comes g c = λ d new.
    let done = c.loop.invariant.done d new in
    ends_never g.S.Source.observed d (g.S.Source.left c.args.capture.now) done.0 c.loop.steps (g.S.Source.left c.loop.capture) c.loop.decoders c.loop.table 18446744073709551615 done.2
    (omega (arith, done.1, c.loop-test.false))
