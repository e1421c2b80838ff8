use Rattle.gts_accum.specs.Ahead.{left_ahead}
use Rattle.gts_accum.proofs.Cited.{◌∙◌, arith, length-take-le, common_steps, unpacking_of}
use Rattle.gts_accum.proofs.UnpackingLemmas.{fewer-missing}
use Rattle.gts_accum.proofs.PassingLemmas.{passes-then}
use Rattle.gts_accum.proofs.parts.UnpackedParts+ReadAhead+S.fill.Goals as goal

pub loop-self-smaller : goal.loop-self-smaller
loop-self-smaller g c = grind (arith, common_steps, length-take-le, fewer-missing)

pub returns-in_err-read_on-clause-passes : goal.returns-in_err-read_on-clause-passes
returns-in_err-read_on-clause-passes g c = grind (arith, common_steps, passes-then)

pub loop-self-preserved : goal.loop-self-preserved
loop-self-preserved g c =
    let was = c.loop-self.invariant in
    record {
      sound = c.read_on.ensures.sound;
      given = c.read_on.ensures.given;
      past = c.read_on.ensures.past;
      circuit = c.read_on.ensures.circuit ∙ was.circuit;
      passes = λ observed.
          passes-then (left_ahead g.S.Source.left) (unpacking_of c.args.self.now) (unpacking_of c.loop-self.self) (unpacking_of c.read_on.new.self) _ (was.passes observed)
          (c.read_on.ensures.passes observed);
      apart = λ enough. grind (arith, common_steps);
      failed = grind (arith, common_steps);
      steady = grind (arith, common_steps);
    }
