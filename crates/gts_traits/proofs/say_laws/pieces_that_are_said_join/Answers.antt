use Rattle.gts_traits.proofs.SayLemmas.{said_none, said_more, front_behind}
use Rattle.gts_traits.proofs.say_laws.pieces_that_are_said_join.Goals as goal

pub returns-clause-nothing : goal.returns-clause-nothing
returns-clause-nothing c = said_none

pub returns-clause-joined : goal.returns-clause-joined
returns-clause-joined c = said_more

pub returns-clause-front : goal.returns-clause-front
returns-clause-front c = front_behind
