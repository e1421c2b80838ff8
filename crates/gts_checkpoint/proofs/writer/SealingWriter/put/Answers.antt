use Rattle.gts_checkpoint.proofs.AloneLemmas.{on_on}
use Rattle.gts_checkpoint.proofs.writer.SealingWriter.put.Goals as goal
use Rattle.gts_checkpoint.proofs.Cited.{common_steps, arith}

pub returns-clause-alone : goal.returns-clause-alone
returns-clause-alone g c = grind (arith, common_steps, on_on)
