use Rattle.gts_replay.proofs.ProgressLemmas.{at_end, at_bad, in_feed}
use Rattle.gts_replay.proofs.progress.the_steps_that_were_read_are_the_captures.Goals as goal

pub returns-clause-end : goal.returns-clause-end
returns-clause-end c = at_end

pub returns-clause-bad : goal.returns-clause-bad
returns-clause-bad c = at_bad

pub returns-clause-cut : goal.returns-clause-cut
returns-clause-cut c = in_feed
