use Rattle.gts_replay.proofs.GoesOnLemmas.{taken_head, taken_feed}
use Rattle.gts_replay.proofs.progress.what_was_taken_is_read.Goals as goal

pub returns-clause-head : goal.returns-clause-head
returns-clause-head c = taken_head

pub returns-clause-feed : goal.returns-clause-feed
returns-clause-feed c = taken_feed
