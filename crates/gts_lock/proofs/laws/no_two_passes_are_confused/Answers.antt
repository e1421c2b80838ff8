use Rattle.gts_lock.proofs.PairsLemmas.{tickets_differ, one_holds, names_differ, joined_names_differ}
use Rattle.gts_lock.proofs.laws.no_two_passes_are_confused.Goals as goal

pub returns-clause-tickets : goal.returns-clause-tickets
returns-clause-tickets g c = tickets_differ g.T.HasHistory.stands

pub returns-clause-holds : goal.returns-clause-holds
returns-clause-holds g c = one_holds g.T.HasHistory.stands

pub returns-clause-names : goal.returns-clause-names
returns-clause-names g c = names_differ g.T.HasHistory.stands

pub returns-clause-joined : goal.returns-clause-joined
returns-clause-joined g c = joined_names_differ g.T.HasHistory.stands
