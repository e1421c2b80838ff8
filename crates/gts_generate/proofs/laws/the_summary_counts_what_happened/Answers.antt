use Rattle.gts_generate.proofs.Cited.{directory, history, start}
use Rattle.gts_generate.proofs.ReceiptLemmas.{duplicates-counted, granted-counted}
use Rattle.gts_generate.proofs.DayCountLemmas.{accepted-on, draws-on, resends-on}
use Rattle.gts_generate.proofs.laws.the_summary_counts_what_happened.Goals as goal

pub returns-clause-accepted : goal.returns-clause-accepted
returns-clause-accepted c count = accepted-on count

pub returns-clause-duplicates : goal.returns-clause-duplicates
returns-clause-duplicates c count = duplicates-counted directory start (history count)

pub returns-clause-requests : goal.returns-clause-requests
returns-clause-requests c count = granted-counted directory start (history count)

pub returns-clause-draws : goal.returns-clause-draws
returns-clause-draws c count = draws-on count

pub returns-clause-resends : goal.returns-clause-resends
returns-clause-resends c count = resends-on count
