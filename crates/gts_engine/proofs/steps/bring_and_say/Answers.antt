use Rattle.gts_engine.proofs.Cited.{Ok, Err, ap, ◌∙◌, arith, err_from_is_err_and, SayFault, common_steps}
use Rattle.gts_engine.proofs.SayingLemmas.{brings_nothing, brings_all, only_brought, said_behind, fails_behind, journal_in}
use Rattle.gts_engine.proofs.steps.bring_and_say.Goals as goal

pub returns-in_err-bring-clause-brings : goal.returns-in_err-bring-clause-brings
returns-in_err-bring-clause-brings g c = grind (arith, common_steps, err_from_is_err_and, brings_nothing)

pub returns-in_err-bring-clause-said : goal.returns-in_err-bring-clause-said
returns-in_err-bring-clause-said g c = grind (arith, common_steps, err_from_is_err_and)

pub returns-in-Ok-clause-brings : goal.returns-in-Ok-clause-brings
returns-in-Ok-clause-brings g c = brings_all g.P.Station c.args.parts.now c.bring.new.parts c.say_held.new.parts c.bring.ensures.rest c.bring.ensures.silent c.bring.ensures.moments c.in_ok-bring.ensures.stands c.say_held.ensures.rest c.say_held.ensures.says (Ok tt) (λ d t cs j stands. stands)

pub returns-in-Ok-clause-said : goal.returns-in-Ok-clause-said
returns-in-Ok-clause-said g c = said_behind g.P.Station c.args.parts.now c.bring.new.parts c.say_held.new.parts c.bring.ensures.rest c.bring.ensures.silent c.bring.ensures.moments c.in_ok-bring.ensures.stands c.say_held.ensures.rest c.say_held.ensures.says c.in-Ok.ensures.said

pub returns-in-Ok-clause-rest : goal.returns-in-Ok-clause-rest
returns-in-Ok-clause-rest g c = only_brought g.P.Station c.args.parts.now c.bring.new.parts c.say_held.new.parts c.bring.ensures.rest c.say_held.ensures.rest

pub returns-in-Ok-clause-place : goal.returns-in-Ok-clause-place
returns-in-Ok-clause-place g c = ap journal_in c.say_held.ensures.rest ∙ c.in_ok-bring.ensures.place

pub returns-in-Err-clause-brings : goal.returns-in-Err-clause-brings
returns-in-Err-clause-brings g c = brings_all g.P.Station c.args.parts.now c.bring.new.parts c.say_held.new.parts c.bring.ensures.rest c.bring.ensures.silent c.bring.ensures.moments c.in_ok-bring.ensures.stands c.say_held.ensures.rest c.say_held.ensures.says (Err SayFault) (λ d t cs j stands. stands)

pub returns-in-Err-clause-said : goal.returns-in-Err-clause-said
returns-in-Err-clause-said g c = (c.in-Err.field-0, fails_behind g.P.Station c.args.parts.now c.bring.new.parts c.say_held.new.parts c.bring.ensures.rest c.bring.ensures.silent c.bring.ensures.moments c.in_ok-bring.ensures.stands c.say_held.ensures.rest c.say_held.ensures.says c.in-Err.field-0 c.in-Err.ensures.said)

pub returns-in-Err-clause-rest : goal.returns-in-Err-clause-rest
returns-in-Err-clause-rest g c = only_brought g.P.Station c.args.parts.now c.bring.new.parts c.say_held.new.parts c.bring.ensures.rest c.say_held.ensures.rest

pub returns-in_err-bring-clause-cause : goal.returns-in_err-bring-clause-cause
returns-in_err-bring-clause-cause g c = grind (arith, common_steps, err_from_is_err_and)

pub returns-in-Ok-clause-cause : goal.returns-in-Ok-clause-cause
returns-in-Ok-clause-cause g c = grind (arith, common_steps)

pub returns-in-Err-clause-cause : goal.returns-in-Err-clause-cause
returns-in-Err-clause-cause g c = grind (arith, common_steps)
