use Rattle.gts_calls.proofs.HeardLemmas.{heard_goes, lost_goes}
use Rattle.gts_calls.proofs.dealing.deal.Goals as goal
use Rattle.gts_calls.proofs.Cited.{common_steps, arith}

pub returns-in-Frame-clause-goes : goal.returns-in-Frame-clause-goes
returns-in-Frame-clause-goes g c = grind (arith, common_steps, heard_goes)

pub returns-in-Lost-clause-goes : goal.returns-in-Lost-clause-goes
returns-in-Lost-clause-goes g c = grind (arith, common_steps, lost_goes)
