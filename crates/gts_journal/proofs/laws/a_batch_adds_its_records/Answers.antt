use Rattle.gts_journal.proofs.LawLemmas.{batch_opens, batch_stands, gathered_block}
use Rattle.gts_journal.proofs.laws.a_batch_adds_its_records.Goals as goal

pub returns-clause-moments : goal.returns-clause-moments
returns-clause-moments c = λ d s old new j rs b f next each. batch_opens d s old j f rs b next new each

pub returns-clause-added : goal.returns-clause-added
returns-clause-added c = λ d s old new j then rs b f next has. batch_stands d s old j f rs b next new then has

pub returns-clause-block : goal.returns-clause-block
returns-clause-block c = λ j r rs b g. gathered_block j.seal r rs b g
