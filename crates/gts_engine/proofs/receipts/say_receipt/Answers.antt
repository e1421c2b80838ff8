use Rattle.gts_engine.proofs.receipts.say_receipt.Goals as goal
use Rattle.gts_engine.proofs.Cited.{common_steps, arith}

pub returns : goal.returns
returns g c = grind (arith, common_steps)
