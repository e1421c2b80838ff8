use Rattle.gts_checkpoint.proofs.CheckpointBytesLemmas.{counted-laid, taken-laid}
use Rattle.gts_checkpoint.proofs.checkpoint_bytes.CheckpointBytesStation.read.Goals as goal
use Rattle.gts_checkpoint.proofs.Cited.{common_steps, arith}

pub returns-clause-count : goal.returns-clause-count
returns-clause-count c = grind (arith, common_steps, counted-laid)

pub returns-clause-bytes : goal.returns-clause-bytes
returns-clause-bytes c = grind (arith, common_steps, taken-laid)
