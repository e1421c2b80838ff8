use Rattle.gts_accum.specs.Ahead.{left_ahead}
use Rattle.gts_accum.proofs.Cited.{drop, arith, length-take, common_steps}
use Rattle.gts_accum.proofs.PassingLemmas.{passes-last, passes-more}
use Rattle.gts_accum.proofs.parts.UnpackedParts+ReadAhead+S.pass_on.Goals as goal

pub returns-then-left-eq0-clause-passes : goal.returns-then-left-eq0-clause-passes
returns-then-left-eq0-clause-passes g c = λ observed.
    let room = length-take c.min-most.result c.args.into.now in
    passes-last (left_ahead g.S.Source.left) c.args.self.now c.args.format c.args.left c.in_ok-count.count c.read.new.into (drop c.min-most.result c.args.into.now) c.read.new.self c.requires.next c.requires.given
    c.in_ok-count.ensures.count (omega (arith, room, c.in_ok-count.ensures.count, c.min-room.ensures, c.min-most.ensures))
    (omega (arith, room, c.in_ok-count.ensures.count, c.min-room.ensures, c.min-most.ensures, c.requires.sound.place)) (c.in_ok-count.ensures.bytes observed).0 c.make.new.self
    c.closing.result c.if-left-eq0.true c.requires.sound.next c.closing.ensures c.make.ensures

pub returns-else-left-eq0-clause-passes : goal.returns-else-left-eq0-clause-passes
returns-else-left-eq0-clause-passes g c = grind (arith, common_steps, length-take, passes-more)
