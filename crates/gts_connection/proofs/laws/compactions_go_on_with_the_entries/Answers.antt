use Rattle.gts_connection.proofs.StepsGoLemmas.{compactions_go_on, compactions_between}
use Rattle.gts_connection.proofs.laws.compactions_go_on_with_the_entries.Goals as goal

pub returns-clause-more : goal.returns-clause-more
returns-clause-more c = compactions_go_on

pub returns-clause-between : goal.returns-clause-between
returns-clause-between c = compactions_between
