use Rattle.gts_message.proofs.LawLemmas.{body_of_message}
use Rattle.gts_message.proofs.laws.a_body_has_the_heading_of_its_message.Goals as goal

pub returns : goal.returns
returns c = body_of_message
