use Rattle.gts_traits.proofs.SayLemmas.{front_more}
use Rattle.gts_traits.proofs.say_laws.a_front_stays_a_front.Goals as goal

pub returns : goal.returns
returns c = front_more
