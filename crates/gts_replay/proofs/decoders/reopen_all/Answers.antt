use Rattle.gts_replay.proofs.DecoderLemmas.{one_more_fresh}
use Rattle.gts_replay.proofs.decoders.reopen_all.Goals as goal
use Rattle.gts_replay.proofs.Cited.{common_steps, arith}

pub loop-decoder-preserved : goal.loop-decoder-preserved
loop-decoder-preserved c = grind (arith, common_steps, one_more_fresh)
