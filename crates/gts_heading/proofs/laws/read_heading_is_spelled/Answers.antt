use Rattle.gts_heading.proofs.LawLemmas.{bare_is_spelled, line_is_spelled}
use Rattle.gts_heading.proofs.laws.read_heading_is_spelled.Goals as goal

pub returns-clause-bare : goal.returns-clause-bare
returns-clause-bare c = bare_is_spelled

pub returns-clause-line : goal.returns-clause-line
returns-clause-line c = line_is_spelled
