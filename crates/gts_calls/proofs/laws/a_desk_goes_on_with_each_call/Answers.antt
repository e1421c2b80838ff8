use Rattle.gts_calls.proofs.HistoryLemmas.{stays, goes_on, goes_any, goes_on_spent, goes_further}
use Rattle.gts_calls.proofs.laws.a_desk_goes_on_with_each_call.Goals as goal

pub returns-clause-stays : goal.returns-clause-stays
returns-clause-stays c = stays

pub returns-clause-adds : goal.returns-clause-adds
returns-clause-adds c = goes_on

pub returns-clause-any : goal.returns-clause-any
returns-clause-any c = goes_any

pub returns-clause-spent : goal.returns-clause-spent
returns-clause-spent c = goes_on_spent

pub returns-clause-chains : goal.returns-clause-chains
returns-clause-chains c = goes_further
