use Rattle.gts_heading.proofs.LawLemmas.{bare_again, line_again}
use Rattle.gts_heading.proofs.laws.spelled_heading_is_read.Goals as goal

pub returns-clause-bare : goal.returns-clause-bare
returns-clause-bare c = bare_again

pub returns-clause-line : goal.returns-clause-line
returns-clause-line c = line_again
