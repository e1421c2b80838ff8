use Rattle.gts_engine.proofs.Cited.{refl}
use Rattle.gts_engine.proofs.steps.say_on.Goals as goal

pub returns-in-Ok-clause-cause : goal.returns-in-Ok-clause-cause
returns-in-Ok-clause-cause g c = let a = c.in-Ok.ensures in record { later = a.cause.later; failed = λ e. absurd (cc e); sound = a.cause.sound; disk = a.disk }

pub returns-in-Err-clause-cause : goal.returns-in-Err-clause-cause
returns-in-Err-clause-cause g c = let a = c.in-Err.ensures in record { later = a.cause.later; failed = λ e. a.cause.failed refl; sound = tt; disk = a.disk }
