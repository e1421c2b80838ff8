use Rattle.gts_generate.proofs.Cited.{refl, append_assoc}
use Rattle.gts_generate.proofs.message.add_request.Goals as goal

pub returns-clause-text : goal.returns-clause-text
returns-clause-text c =
    simp (c.add_end.ensures, c.append-4.ensures, c.append-3.ensures, c.append-2.ensures, c.append.ensures, c.add_heading.ensures.text, append_assoc) refl
