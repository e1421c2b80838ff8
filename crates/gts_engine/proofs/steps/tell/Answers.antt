use Rattle.gts_engine.proofs.Cited.{◌≡◌, true, false, refl, ap, arith, props, EngineParts, IsWithin, Sayings, engine_of}
use Rattle.gts_engine.proofs.SettlingLemmas.{none_told, some_told}
use Rattle.gts_engine.proofs.SayingLemmas.{few_held, few_more}
use Rattle.gts_engine.proofs.StepLemmas.{part_held}
use Rattle.gts_engine.proofs.steps.tell.Goals as goal

-- what a directory says of itself has one proof
held_alone : {P : Type 0} (p : EngineParts P) (h : Sayings) (within : IsWithin p.directory) → record p { held = h; within = within } ≡ record p { held = h }
held_alone p h within =
    let one : within ≡ p.within = hlevel props in
    ap (λ (w : IsWithin p.directory). record p { held = h; within = w }) one

pub returns-then-is_empty : goal.returns-then-is_empty
returns-then-is_empty g c =
    let old = c.args.parts.now in
    let none : (engine_of old).gathered ≡ false = none_told _ c.is_empty.result c.is_empty.ensures.value c.if-is_empty.true in
    record {
      told = λ same. c.say_on.ensures.told;
      rest = λ same. c.say_on.ensures.rest;
      held = λ some. absurd (cc (none, some));
      few = few_held old.held _ _ c.requires (ap part_held c.say_on.ensures.rest);
      stops = c.say_on.ensures.stops;
      fault = c.say_on.ensures.fault;
      cause = c.say_on.ensures.cause;
    }

pub returns : goal.returns
returns g c =
    let old = c.args.parts.now in
    let some : (engine_of old).gathered ≡ true = some_told _ c.is_empty.result c.is_empty.ensures.value c.is_empty.ensures.closed c.if-is_empty.false in
    record {
      told = λ none. absurd (cc (none, some));
      rest = λ none. absurd (cc (none, some));
      held = λ same. (refl, held_alone c.args.parts.now c.hold.new.self _, c.hold.ensures);
      few = few_more old.held _ _ _ c.requires c.hold.ensures;
      stops = refl;
      fault = tt;
      cause = record { later = omega arith; failed = λ e. absurd (cc e); sound = refl; disk = refl };
    }
