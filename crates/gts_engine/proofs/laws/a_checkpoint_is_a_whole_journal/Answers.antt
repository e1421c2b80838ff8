use Rattle.gts_engine.proofs.LawLemmas.{ends_there, fit_bytes}
use Rattle.gts_engine.proofs.laws.a_checkpoint_is_a_whole_journal.Goals as goal

pub returns-clause-ends : goal.returns-clause-ends
returns-clause-ends c = λ mark n used long size. ends_there mark n used long size

pub returns-clause-fits : goal.returns-clause-fits
returns-clause-fits c = λ d n few sound. fit_bytes d n few sound
