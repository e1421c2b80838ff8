use Rattle.gts_standby.proofs.BetweenLemmas.{feed_between}
use Rattle.gts_standby.proofs.laws.what_a_standby_has_and_what_it_lacks_are_the_feed.Goals as goal

pub returns : goal.returns
returns c = feed_between
