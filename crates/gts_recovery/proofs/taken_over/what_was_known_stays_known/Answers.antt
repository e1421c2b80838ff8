use Rattle.gts_recovery.proofs.Cited.{knows}
use Rattle.gts_recovery.specs.TakenOver.{goes_over}
use Rattle.gts_recovery.proofs.taken_over.what_was_known_stays_known.Goals as goal

pub returns : goal.returns
returns c = λ new old n entries b i at. knows new (goes_over new old n) entries b i at
