use Rattle.gts_standby.proofs.BehindLemmas.{has_front}
use Rattle.gts_standby.proofs.laws.what_a_standby_lacks_ends_the_feed.Goals as goal

pub returns : goal.returns
returns c = has_front
