use Rattle.gts_generate.proofs.LawLemmas.{read-as-steps}
use Rattle.gts_generate.proofs.laws.the_capture_is_read_as_its_steps.Goals as goal

pub returns : goal.returns
returns c = read-as-steps
