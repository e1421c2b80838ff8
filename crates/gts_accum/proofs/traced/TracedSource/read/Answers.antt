use Rattle.gts_accum.specs.Ahead.{left_ahead}
use Rattle.gts_accum.specs.Traced.{IsOf, whether_failed}
use Rattle.gts_accum.proofs.Cited.{◌≡◌, HasCause, Unpacking, arith, common_steps, subst}
use Rattle.gts_accum.proofs.PassingLemmas.{cause-whether, covers-on, takes_shorter, since-on}
use Rattle.gts_accum.proofs.traced.TracedSource.read.Goals as goal

pub invariant_of-self : goal.invariant_of-self
invariant_of-self g c =
    let of : IsOf g.S.Source.observed (left_ahead g.S.Source.left) g.B.OfFile.file g.B.OfFile.circuit c.read.new.self = grind (arith, common_steps, takes_shorter, covers-on) in
    (of, since-on g.S.Source.faults g.B.OfFile.faults c.read.result c.self.inside.unpacked.source c.read.new.self.source c.self.invariant.1 c.read.ensures.failed c.read.ensures.cause)

pub returns-clause-cause : goal.returns-clause-cause
returns-clause-cause g c =
    let same : c.self.inside.unpacked ≡ c.args.self.now = c.self.view_is in
    subst (λ (t : Unpacking _). HasCause c.read.result (whether_failed t.source) (whether_failed c.read.new.self.source)) same
    (cause-whether c.read.result c.self.inside.unpacked.source c.read.new.self.source c.read.ensures.failed)
