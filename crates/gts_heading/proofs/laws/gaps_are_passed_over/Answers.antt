use Rattle.gts_heading.proofs.LawLemmas.{gap_takes, gap_again}
use Rattle.gts_heading.proofs.laws.gaps_are_passed_over.Goals as goal

pub returns-clause-read : goal.returns-clause-read
returns-clause-read c = gap_takes

pub returns-clause-spelled : goal.returns-clause-spelled
returns-clause-spelled c = gap_again
