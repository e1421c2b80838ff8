use Rattle.gts_bbb.proofs.LawLemmas.{kinds_are_groups}
use Rattle.gts_bbb.proofs.laws.kinds_are_the_groups.Goals as goal

pub returns : goal.returns
returns c = kinds_are_groups
