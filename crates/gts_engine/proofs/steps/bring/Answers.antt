use Rattle.gts_engine.proofs.Cited.{refl, common_steps, arith}
use Rattle.gts_engine.proofs.steps.bring.Goals as goal

pub returns-in-Ok-clause-moments : goal.returns-in-Ok-clause-moments
returns-in-Ok-clause-moments g c = λ tell s rs stands next.
    let old = c.args.parts.now in
    c.a_batch_adds_its_records.ensures.moments old.directory s (g.P.Station.calls old.station) (g.P.Station.calls c.append_batch.new.station) old.journal rs old.batch stands next (c.append_batch.ensures.moments tell)

pub returns-in-Err-clause-moments : goal.returns-in-Err-clause-moments
returns-in-Err-clause-moments g c = grind (arith, common_steps)

pub returns-in-Ok-clause-stands : goal.returns-in-Ok-clause-stands
returns-in-Ok-clause-stands g c = λ tell s rs stands next.
    let old = c.args.parts.now in
    c.a_batch_adds_its_records.ensures.added old.directory s (g.P.Station.calls old.station) (g.P.Station.calls c.append_batch.new.station) old.journal c.append_batch.new.self rs old.batch stands next
    (record { text = c.in-Ok.ensures.added tell; stands = c.in-Ok.ensures.stands tell; place = c.in-Ok.ensures.place })

pub returns-in-Ok-clause-cause : goal.returns-in-Ok-clause-cause
returns-in-Ok-clause-cause g c = let a = c.in-Ok.ensures.cause in record { later = a.later; failed = λ e. absurd (cc e); sound = a.sound; say = a.say }

pub returns-in-Err-clause-cause : goal.returns-in-Err-clause-cause
returns-in-Err-clause-cause g c = let a = c.in-Err.ensures.cause in record { later = a.later; failed = λ e. a.failed refl; sound = tt; say = a.say }
