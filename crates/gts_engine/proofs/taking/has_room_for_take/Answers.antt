use Rattle.gts_engine.proofs.TakingLemmas.{repeat_unrecorded, nothing_unrecorded}
use Rattle.gts_engine.proofs.taking.has_room_for_take.Goals as goal
use Rattle.gts_engine.proofs.Cited.{common_steps, arith}

pub returns-in-Draw : goal.returns-in-Draw
returns-in-Draw g c = grind (arith, common_steps)

pub returns-in-Resend : goal.returns-in-Resend
returns-in-Resend g c = grind (arith, common_steps, repeat_unrecorded)

pub returns-in-Nothing : goal.returns-in-Nothing
returns-in-Nothing g c = grind (arith, common_steps, nothing_unrecorded)
