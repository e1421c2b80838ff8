use Rattle.gts_accum.specs.Ahead.{left_ahead}
use Rattle.gts_accum.proofs.Cited.{◌∙◌, arith}
use Rattle.gts_accum.proofs.PassingLemmas.{covers-on, since-on}
use Rattle.gts_accum.proofs.traced.Traced.bad.Goals as goal

pub invariant_of-self : goal.invariant_of-self
invariant_of-self g c =
    let left = left_ahead g.S.Source.left in
    let was = c.self.invariant.0 in (
      record {
        place = λ observed. c.finish.ensures.bad observed ∙ was.place observed;
        short = λ observed. omega (arith, c.finish.ensures.shorter observed, was.short observed);
        covers = λ observed.
            let k = c.finish.ensures.passes observed in
            covers-on left g.B.OfFile.file g.B.OfFile.circuit c.self.inside.unpacked c.finish.new.unpacked k.0 (was.covers observed) k.1;
        due = c.finish.ensures.due;
      },
      since-on g.S.Source.faults g.B.OfFile.faults c.finish.result c.self.inside.unpacked.source c.finish.new.unpacked.source c.self.invariant.1 c.finish.ensures.failed c.finish.ensures.cause,
    )
