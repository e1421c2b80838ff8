use Rattle.gts_standby.proofs.Cited.{tells_try, say_stands, common_steps, arith}
use Rattle.gts_standby.proofs.piece.say_piece.Goals as goal

pub returns-in-Ok-clause-told : goal.returns-in-Ok-clause-told
returns-in-Ok-clause-told g c = grind (arith, common_steps, tells_try, say_stands)

pub returns-in-Err-clause-told : goal.returns-in-Err-clause-told
returns-in-Err-clause-told g c = grind (arith, common_steps, tells_try)
