use Rattle.gts_accum.specs.Ahead.{left_ahead}
use Rattle.gts_accum.proofs.Cited.{◌-◌, ◌∙◌, ap, arith, length, common_steps, unpacking_of}
use Rattle.gts_accum.proofs.PassingLemmas.{passes-filled, passes-none}
use Rattle.gts_accum.proofs.parts.UnpackedParts+ReadAhead+S.read.Goals as goal

pub returns-then-more-eq0-clause-passes : goal.returns-then-more-eq0-clause-passes
returns-then-more-eq0-clause-passes g c = λ observed.
    let so = c.loop-count in
    passes-none (left_ahead g.S.Source.left) (unpacking_of c.args.self.now) (unpacking_of so.self) (unpacking_of c.read_ready-more.new.self) so.count c.read_ready-more.result
    (length so.into - so.count) so.into c.read_ready-more.new.into (so.invariant.passes observed) (c.read_ready-more.ensures.passes observed) so.invariant.few c.if-more-eq0.true

pub loop-count-preserved : goal.loop-count-preserved
loop-count-preserved g c =
    let so = c.loop-count in
    let more = c.read_ready-more in
    record {
      sound = more.ensures.sound;
      circuit = more.ensures.circuit ∙ so.invariant.circuit;
      passes = λ observed.
          passes-filled (left_ahead g.S.Source.left) (unpacking_of c.args.self.now) (unpacking_of so.self) (unpacking_of more.new.self) so.count more.result
          (length so.into - so.count) so.into more.new.into (so.invariant.passes observed) (more.ensures.passes observed) so.invariant.few more.ensures.count;
      few = grind (arith, common_steps);
      end = λ none. absurd (omega (arith, none, c.loop-count-test.true));
      faults = ap g.S.Source.faults more.ensures.source ∙ so.invariant.faults;
      failed = more.ensures.failed ∙ so.invariant.failed;
    }
