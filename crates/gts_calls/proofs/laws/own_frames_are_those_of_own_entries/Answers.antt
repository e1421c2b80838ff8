use Rattle.gts_calls.proofs.HistoryLemmas.{frames_added}
use Rattle.gts_calls.proofs.laws.own_frames_are_those_of_own_entries.Goals as goal

pub returns : goal.returns
returns c = frames_added
