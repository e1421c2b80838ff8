use Rattle.gts_accum.specs.Ahead.{left_ahead}
use Rattle.gts_accum.proofs.Cited.{ℕ, List, [], ◌++◌, length, take, ap, ◌∙◌, arith, length-append, length-take}
use Rattle.gts_accum.specs.Unpacking.{capture_left}
use Rattle.gts_accum.proofs.PassingLemmas.{passes-both}
use Rattle.gts_accum.proofs.traced.finish.Goals as goal

pub returns-in_err-read-clause-passes : goal.returns-in_err-read-clause-passes
returns-in_err-read-clause-passes g c = λ observed.
    let k = c.loop.invariant.passes observed in
    (k.0 ++ [], passes-both (left_ahead g.S.Source.left) c.args.unpacked.now c.loop.unpacked c.read.new.self k.0 [] k.1 (c.in_err-read.ensures.passes observed))

pub returns-then-branch-eq0-clause-passes : goal.returns-then-branch-eq0-clause-passes
returns-then-branch-eq0-clause-passes g c = λ observed.
    let k = c.loop.invariant.passes observed in
    let given : List ℕ = take c.in_ok-read.field-0 c.read.new.into in
    (k.0 ++ given, passes-both (left_ahead g.S.Source.left) c.args.unpacked.now c.loop.unpacked c.read.new.self k.0 given k.1 (c.in_ok-read.ensures.passes observed))

pub loop-preserved : goal.loop-preserved
loop-preserved g c =
    let left = left_ahead g.S.Source.left in
    let given : List ℕ = take c.in_ok-read.field-0 c.read.new.into in
    record {
      bad = λ observed. c.read.ensures.bad observed ∙ c.loop.invariant.bad observed;
      shorter = λ observed.
          omega (
            arith,
            ap length (c.in_ok-read.ensures.bytes observed).0,
            length-append given (capture_left left c.read.new.self),
            length-take c.in_ok-read.field-0 c.read.new.into,
            c.in_ok-read.ensures.count,
            c.loop.invariant.shorter observed,
            c.if-branch-eq0.false,
          );
      passes = λ observed.
          let k = c.loop.invariant.passes observed in
          (k.0 ++ given, passes-both left c.args.unpacked.now c.loop.unpacked c.read.new.self k.0 given k.1 (c.in_ok-read.ensures.passes observed));
      due = c.read.ensures.due;
      failed = c.in_ok-read.ensures.failed.same ∙ c.loop.invariant.failed;
      sound = c.in_ok-read.ensures.cause.sound ∙ c.loop.invariant.sound;
    }
