use Rattle.gts_engine.proofs.Cited.{◌≡◌, ℕ, List, [], ◌∷◌, inl, refl, arith, nil_from_length, common_steps}
use Rattle.gts_traits.specs.Calls.{on}
use Rattle.gts_engine.proofs.steps.say_one.Goals as goal

-- bytes that say nothing are none
on_none : (channel : ℕ) (bytes : List ℕ) → on channel bytes ≡ [] → bytes ≡ []
on_none channel [] e = refl
on_none channel (x ∷ bytes) e = absurd (cc e)

pub returns-then-next-at-clause-told : goal.returns-then-next-at-clause-told
returns-then-next-at-clause-told g c = grind (arith, common_steps, nil_from_length)

pub returns-in-Ok-clause-told : goal.returns-in-Ok-clause-told
returns-in-Ok-clause-told g c = λ observed. (c.saying-channel.result.0, c.saying-channel.result.1.now, c.saying-channel.ensures.piece, inl (c.in-Ok.ensures.told observed))

pub returns-in-Err-clause-told : goal.returns-in-Err-clause-told
returns-in-Err-clause-told g c = λ observed. (c.saying-channel.result.0, c.saying-channel.result.1.now, c.saying-channel.ensures.piece, inl (c.in-Err.ensures.told observed))

pub returns-in-Err-clause-silent : goal.returns-in-Err-clause-silent
returns-in-Err-clause-silent g c = grind (arith, common_steps, on_none)

pub returns-then-next-at-clause-cause : goal.returns-then-next-at-clause-cause
returns-then-next-at-clause-cause g c = record { later = omega arith; failed = λ e. absurd (cc e); sound = refl; disk = refl }

pub returns-in-Ok-clause-cause : goal.returns-in-Ok-clause-cause
returns-in-Ok-clause-cause g c = let a = c.in-Ok.ensures in record { later = a.cause.later; failed = λ e. absurd (cc e); sound = a.cause.sound; disk = a.disk }

pub returns-in-Err-clause-cause : goal.returns-in-Err-clause-cause
returns-in-Err-clause-cause g c = let a = c.in-Err.ensures in record { later = a.cause.later; failed = λ e. a.cause.failed refl; sound = tt; disk = a.disk }
