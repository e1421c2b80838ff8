use Rattle.gts_replay.proofs.GoesOnLemmas.{head_goes_on, feed_goes_on}
use Rattle.gts_replay.proofs.progress.what_was_read_is_the_captures_beginning.Goals as goal

pub returns-clause-head : goal.returns-clause-head
returns-clause-head c = head_goes_on

pub returns-clause-feed : goal.returns-clause-feed
returns-clause-feed c = feed_goes_on
