use Rattle.gts_accum.specs.Ahead.{left_ahead}
use Rattle.gts_accum.proofs.Cited.{given_by, unpacking_of, take}
use Rattle.gts_accum.proofs.PassingLemmas.{passes-then, passes-given}
use Rattle.gts_accum.proofs.parts.UnpackedParts+ReadAhead+S.begin.Goals as goal

pub returns-clause-passes : goal.returns-clause-passes
returns-clause-passes g c = λ observed.
    let left = left_ahead g.S.Source.left in
    let given = take c.give.result c.give.new.into in
    passes-then left (unpacking_of c.args.self.now) (unpacking_of c.fill.new.self) (unpacking_of c.give.new.self) given (c.fill.ensures.passes observed)
    (passes-given left (unpacking_of c.fill.new.self) (unpacking_of c.give.new.self) given c.give.ensures.source c.give.ensures.gives)
