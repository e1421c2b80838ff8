use Rattle.gts_connection.proofs.StepsGoLemmas.{entries_go_on, connections_go_on, each_connection}
use Rattle.gts_connection.proofs.laws.steps_go_on.Goals as goal

pub returns-clause-entries : goal.returns-clause-entries
returns-clause-entries c = entries_go_on

pub returns-clause-connections : goal.returns-clause-connections
returns-clause-connections c = connections_go_on

pub returns-clause-each : goal.returns-clause-each
returns-clause-each c = each_connection
