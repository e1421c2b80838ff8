-- The fields of a message by name.
use Rattle.std.specs.Prelude.{ℕ, List, codes}
use Rattle.gts_heading.specs.declared.field.MessageField.{MessageField}
use Rattle.gts_heading.specs.declared.field.MessageField.TheVariants.{StartLine, Number, HeadingStart, Tt, Aa, Ii, Cccc, Day, Hour, Minute, Bbb, HeadingEnd, End, Size}

-- the name of a field, as a receipt has it
abbrev pub field_text : MessageField → List ℕ
field_text StartLine = codes "StartLine"
field_text Number = codes "Number"
field_text HeadingStart = codes "HeadingStart"
field_text Tt = codes "TT"
field_text Aa = codes "AA"
field_text Ii = codes "ii"
field_text Cccc = codes "CCCC"
field_text Day = codes "Day"
field_text Hour = codes "Hour"
field_text Minute = codes "Minute"
field_text Bbb = codes "BBB"
field_text HeadingEnd = codes "HeadingEnd"
field_text End = codes "End"
field_text Size = codes "Size"
