use Rattle.gts_engine.proofs.Cited.{◌≡◌, ◌+◌, take, refl, ap, subst, arith, Sayings, sizes_of, common_steps}
use Rattle.gts_engine.proofs.PieceLemmas.{each_empty}
use Rattle.gts_engine.proofs.SayingLemmas.{sayings_in, none_so_far, one_further, said_all, holds_all, holds_failed, fails_there}
use Rattle.gts_engine.proofs.steps.say_held.Goals as goal

pub loop-i-init : goal.loop-i-init
loop-i-init g c = record { at = refl; up = none_so_far g.P.Station c.args.parts.now }

pub say_one-requires-clause-there : goal.say_one-requires-clause-there
say_one-requires-clause-there g c = grind (arith, common_steps, sayings_in)

pub say_one-requires-clause-place : goal.say_one-requires-clause-place
say_one-requires-clause-place g c = grind (arith, common_steps, sayings_in)

pub loop-i-preserved : goal.loop-i-preserved
loop-i-preserved g c =
    let A : Sayings → Type 0 = λ h. c.in-Ok.next ≡ sizes_of (take (c.loop-i.i + 1) h.each) in
    record {
      at = subst A (ap sayings_in c.loop-i.invariant.up.rest) c.in-Ok.ensures.next;
      up = one_further g.P.Station c.args.parts.now c.loop-i.i c.loop-i.parts c.say_one.new.parts c.loop-i.invariant.up (omega (arith, c.loop-i-test.true, c.count-i-end.ensures)) c.say_one.result c.say_one.ensures.told c.say_one.ensures.rest c.say_one.ensures.cause c.in-Ok.next c.in-Ok.is c.in-Ok.ensures.stops;
    }

pub returns-in-Err-clause-says : goal.returns-in-Err-clause-says
returns-in-Err-clause-says g c = holds_failed g.P.Station c.args.parts.now c.loop-i.i c.loop-i.parts c.say_one.new.parts c.loop-i.invariant.up (omega (arith, c.loop-i-test.true, c.count-i-end.ensures)) c.say_one.result c.say_one.ensures.told c.say_one.ensures.rest c.say_one.ensures.cause

pub returns-in-Err-clause-said : goal.returns-in-Err-clause-said
returns-in-Err-clause-said g c = fails_there g.P.Station c.args.parts.now c.loop-i.i c.loop-i.parts c.say_one.new.parts c.loop-i.invariant.up (omega (arith, c.loop-i-test.true, c.count-i-end.ensures)) c.say_one.result c.say_one.ensures.told c.say_one.ensures.rest c.say_one.ensures.cause

pub returns-clause-says : goal.returns-clause-says
returns-clause-says g c = holds_all g.P.Station c.args.parts.now c.loop-i.i c.loop-i.parts c.loop-i.invariant.up

pub returns-clause-said : goal.returns-clause-said
returns-clause-said g c = said_all g.P.Station c.args.parts.now c.loop-i.i c.loop-i.parts (omega (arith, c.loop-i-test.false, c.loop-i.auto.i-end, c.count-i-end.ensures)) c.loop-i.invariant.up

pub returns-in-Err-clause-silent : goal.returns-in-Err-clause-silent
returns-in-Err-clause-silent g c = grind (arith, common_steps, sayings_in, each_empty)

pub returns-in-Err-clause-cause : goal.returns-in-Err-clause-cause
returns-in-Err-clause-cause g c = grind (arith, common_steps)

pub returns-clause-cause : goal.returns-clause-cause
returns-clause-cause g c = grind (arith, common_steps)
