use Rattle.gts_accum.specs.Ahead.{left_ahead}
use Rattle.gts_accum.proofs.Cited.{◌≡◌, [], ap, sym, ◌∙◌, arith, ahead, length-take-le, common_steps, unpacking_of}
use Rattle.gts_accum.proofs.UnpackingLemmas.{ahead-head, head_reads, given-all}
use Rattle.gts_accum.proofs.PassingLemmas.{passes-end}
use Rattle.gts_accum.proofs.parts.UnpackedParts+ReadAhead+S.read_on.Goals as goal

pub returns-else-count-eq0-clause-passes : goal.returns-else-count-eq0-clause-passes
returns-else-count-eq0-clause-passes g c = grind (arith, common_steps, length-take-le, head_reads, ahead-head, given-all)

pub returns-then-count-eq0-clause-passes : goal.returns-then-count-eq0-clause-passes
returns-then-count-eq0-clause-passes g c = λ observed.
    let left = left_ahead g.S.Source.left in
    let was = c.args.self.now in
    let now = c.stop.new.self in
    let took = c.in_ok-count.ensures.bytes observed in
    let none : left was.source ≡ [] = grind (arith, common_steps) in
    let rest : left now.source ≡ [] = grind (arith, common_steps) in
    let same : ahead left (unpacking_of now) ≡ ahead left (unpacking_of was) = grind (arith, common_steps, length-take-le) in
    passes-end left (unpacking_of was) (unpacking_of now) none rest same
