-- The headings of the worked examples.
use Rattle.std.specs.Prelude.{ℕ, List, [], ◌∷◌, Some, None, codes}
use Rattle.gts_heading.specs.Heading.{HeadingFields, heading_text}
use Rattle.gts_heading.specs.Worked.{worked_heading}
use Rattle.gts_segments.specs.Segments.{Noted}

-- SMVG01 TVSV 280000
abbrev pub whole_heading : HeadingFields
whole_heading = worked_heading None

-- the first segment is noted, and a last one with this group
abbrev pub two_noted : List ℕ → Noted
two_noted last = heading_text (worked_heading (Some (codes "PAA"))) ∷ heading_text (worked_heading (Some last)) ∷ []
