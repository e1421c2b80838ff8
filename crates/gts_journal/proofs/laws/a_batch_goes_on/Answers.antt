use Rattle.gts_journal.proofs.LawLemmas.{records_more, next_none, next_more}
use Rattle.gts_journal.proofs.laws.a_batch_goes_on.Goals as goal

pub returns-clause-begins : goal.returns-clause-begins
returns-clause-begins c = λ d s j. next_none d s j

pub returns-clause-more : goal.returns-clause-more
returns-clause-more c = λ d s j rs r b next current are more. next_more d s j rs r b next current are more.version more.gathers more.may

pub returns-clause-after : goal.returns-clause-after
returns-clause-after c = λ d s rs r. records_more d s rs r
