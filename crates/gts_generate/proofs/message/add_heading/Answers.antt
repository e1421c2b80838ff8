use Rattle.gts_generate.proofs.Cited.{refl, append_assoc, dec, heading_text}
use Rattle.gts_generate.proofs.message.add_heading.Goals as goal

pub returns-clause-text : goal.returns-clause-text
unfolding dec heading_text
returns-clause-text c =
    simp (c.append-7.ensures, c.append-6.ensures, c.append-5.ensures, c.append-4.ensures, c.append-3.ensures, c.append-2.ensures, c.append.ensures, c.digits_of.ensures, c.digits_of-2.ensures, c.digits_of-3.ensures, c.digits_of-4.ensures, append_assoc) refl
