-- The headings of the worked examples.
use Rattle.std.specs.Prelude.{List, ℕ, Option, None, codes}
use Rattle.gts_heading.specs.Heading.{HeadingFields}

-- SMVG01 TVSV 280000, with this group
abbrev pub worked_heading : Option (List ℕ) → HeadingFields
worked_heading group =
    record { tt = codes "SM"; aa = codes "VG"; ii = 1; cccc = codes "TVSV"; day = 28; hour = 0; minute = 0; bbb = group }

-- SMVG01 TVSV 312359, in the last minute of a month
abbrev pub last_minute : HeadingFields
last_minute =
    record { tt = codes "SM"; aa = codes "VG"; ii = 1; cccc = codes "TVSV"; day = 31; hour = 23; minute = 59; bbb = None }
