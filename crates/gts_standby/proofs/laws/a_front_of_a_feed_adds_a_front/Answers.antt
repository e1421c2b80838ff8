use Rattle.gts_standby.proofs.FrontLemmas.{front_adds}
use Rattle.gts_standby.proofs.laws.a_front_of_a_feed_adds_a_front.Goals as goal

pub returns : goal.returns
returns c = front_adds
