use Rattle.gts_calls.proofs.HistoryLemmas.{own_added, own_any, turned}
use Rattle.gts_calls.proofs.laws.each_turn_adds_own_entries.Goals as goal

pub returns-clause-adds : goal.returns-clause-adds
returns-clause-adds c = own_added

pub returns-clause-any : goal.returns-clause-any
returns-clause-any c = own_any

pub returns-clause-counts : goal.returns-clause-counts
returns-clause-counts c = turned
