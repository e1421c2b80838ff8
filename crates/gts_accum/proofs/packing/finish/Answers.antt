use Rattle.gts_accum.proofs.Cited.{◌≡◌, ◌≤◌, List, ℕ, length, Result, Err, Ok, subst, arith, Failed, LONGEST_STREAM, Tells, on}
use Rattle.gts_accum.proofs.PackLemmas.{sound_at_end, told_to_end}
use Rattle.gts_accum.proofs.packing.finish.Goals as goal

pub returns-in-Ok-clause-ends : goal.returns-in-Ok-clause-ends
returns-in-Ok-clause-ends g c = λ first stream held place holds rest.
    let a = g.P.Station.calls c.args.station.now in
    let b = g.P.Station.calls c.say.new.station in
    let T : List ℕ → Result (Unit {0}) Failed → Type 0 = λ head r. Tells r (on 0 head) a b in
    let few : length stream ≤ LONGEST_STREAM = omega (arith, place, c.requires) in
    let none : length held ≡ 0 = omega (arith, rest, c.if-rest-gt0.false) in (
      sound_at_end stream held few holds.is none,
      λ t. told_to_end {T = Unit {0}} {E = Failed} (Ok tt) first a b stream held few holds.is none (holds.said t)
          (subst (λ (head : List ℕ). T head (Ok tt)) c.entry_head.ensures (subst (T c.entry_head.new.into) c.in-Ok.is (c.say.ensures.told t))),
    )

pub returns-in-Err-clause-ends : goal.returns-in-Err-clause-ends
returns-in-Err-clause-ends g c = λ first stream held place holds rest t.
    let a = g.P.Station.calls c.args.station.now in
    let b = g.P.Station.calls c.say.new.station in
    let T : List ℕ → Result (Unit {0}) Failed → Type 0 = λ head r. Tells r (on 0 head) a b in
    let few : length stream ≤ LONGEST_STREAM = omega (arith, place, c.requires) in
    let none : length held ≡ 0 = omega (arith, rest, c.if-rest-gt0.false) in
    told_to_end {T = Unit {0}} (Err c.in-Err.field-0) first a b stream held few holds.is none (holds.said t)
    (subst (λ (head : List ℕ). T head (Err c.in-Err.field-0)) c.entry_head.ensures (subst (T c.entry_head.new.into) c.in-Err.is (c.say.ensures.told t)))
