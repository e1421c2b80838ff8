use Rattle.gts_heading.proofs.Cited.{rules, ◌∙◌, same_from_decides}
use Rattle.gts_heading.specs.Heading.{HeadingFields, IsHeading, fields_of, is_same_heading}
use Rattle.gts_heading.proofs.SameLemmas.{have_same_fields, fields_decide, texts_decide}
use Rattle.gts_heading.proofs.heading.Heading.is_same.Goals as goal

pub returns : goal.returns
returns c =
    let g : HeadingFields = fields_of c.args.self.now in
    let h : HeadingFields = fields_of c.args.other.now in
    let is_g : IsHeading g = search rules in
    let is_h : IsHeading h = search rules in
    c.eq.ensures ∙ same_from_decides (have_same_fields g h) (is_same_heading g h) (fields_decide g h) (texts_decide g h is_g is_h)
