use Rattle.gts_heading.proofs.Cited.{ap}
use Rattle.gts_heading.specs.Heading.{heading_text}
use Rattle.gts_heading.proofs.LawLemmas.{same_heading}
use Rattle.gts_heading.proofs.laws.headings_are_known_by_their_texts.Goals as goal

pub returns : goal.returns
returns c g h is_g is_h = (same_heading g h is_g is_h, ap heading_text)
