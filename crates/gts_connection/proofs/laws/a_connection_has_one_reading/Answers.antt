use Rattle.gts_connection.proofs.Cited.{sym, ◌∙◌}
use Rattle.gts_connection.proofs.StreamLemmas.{connection-is, connection-unique, front-not_lost, not_lost-front}
use Rattle.gts_connection.proofs.laws.a_connection_has_one_reading.Goals as goal

pub returns-clause-computed : goal.returns-clause-computed
returns-clause-computed c = connection-is

pub returns-clause-one : goal.returns-clause-one
returns-clause-one c = λ e bytes events others h k. connection-unique e bytes events h ∙ sym (connection-unique e bytes others k)

pub returns-clause-kept : goal.returns-clause-kept
returns-clause-kept c = λ e bytes. (not_lost-front e bytes, front-not_lost e bytes)
