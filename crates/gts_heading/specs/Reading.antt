-- The fields of a heading from left to right: each is there, and leaves the bytes behind it, or it is the first fault.
-- A byte that isn't there is a fault of the field in which it would stand.
use Rattle.std.specs.Prelude.{◌≡◌, ℕ, false, ◌&&◌, nat_eq, nat_le, List, [], ◌∷◌, length, take, drop, Option, Some, None, Result, Ok, Err, if◌then◌else◌}
use Rattle.gts_heading.specs.Cited.Below.{EOL, digits_value, is_ascii_digit, list_all, starts_with}
use Rattle.gts_heading.specs.declared.field.MessageField.{MessageField}
use Rattle.gts_heading.specs.declared.field.MessageField.TheVariants.{Tt, Aa, Ii, Cccc, Day, Hour, Minute, Bbb, HeadingEnd}
use Rattle.gts_heading.specs.Letters.{are_capitals, is_bbb}
use Rattle.gts_heading.specs.Heading.{HeadingFields}

-- the next field, where this one is there
infixl 10 ◌>>=◌
abbrev pub ◌>>=◌ : {A B : Type 0} → Result A MessageField → (A → Result B MessageField) → Result B MessageField
(Ok x) >>= f = f x
(Err e) >>= f = Err e

-- the bytes behind these, where the bytes begin with them
abbrev pub after_word : List ℕ → MessageField → List ℕ → Result (List ℕ) MessageField
after_word word field bytes = if starts_with nat_eq bytes word then Ok (drop (length word) bytes) else Err field

-- so many capitals
abbrev pub capitals_at : ℕ → MessageField → List ℕ → Result (List ℕ × List ℕ) MessageField
capitals_at count field bytes =
    if nat_le count (length bytes) && are_capitals (take count bytes) then Ok (take count bytes, drop count bytes) else Err field

-- two digits, and their number from low to high
abbrev pub two_digits_at : ℕ → ℕ → MessageField → List ℕ → Result (ℕ × List ℕ) MessageField
two_digits_at low high field bytes =
    if nat_le 2 (length bytes) && list_all is_ascii_digit (take 2 bytes)
    && nat_le low (digits_value 10 (take 2 bytes)) && nat_le (digits_value 10 (take 2 bytes)) high
    then Ok (digits_value 10 (take 2 bytes), drop 2 bytes)
    else Err field

-- TTAAii CCCC YYGGgg
unfoldable pub plain_heading_at : List ℕ → Result (HeadingFields × List ℕ) MessageField
plain_heading_at bytes = do
  tt ← capitals_at 2 Tt bytes
  aa ← capitals_at 2 Aa tt.1
  ii ← two_digits_at 0 99 Ii aa.1
  before_cccc ← after_word (32 ∷ []) Cccc ii.1
  cccc ← capitals_at 4 Cccc before_cccc
  before_day ← after_word (32 ∷ []) Day cccc.1
  day ← two_digits_at 1 31 Day before_day
  hour ← two_digits_at 0 23 Hour day.1
  minute ← two_digits_at 0 59 Minute hour.1
  Ok (record { tt = tt.0; aa = aa.0; ii = ii.0; cccc = cccc.0; day = day.0; hour = hour.0; minute = minute.0; bbb = None }, minute.1)

-- the three letters of a BBB group
abbrev pub letters_at : List ℕ → Result (List ℕ × List ℕ) MessageField
letters_at bytes = if is_bbb (take 3 bytes) then Ok (take 3 bytes, drop 3 bytes) else Err Bbb

-- the three letters behind a blank
abbrev pub group_at : List ℕ → Result (Option (List ℕ) × List ℕ) MessageField
group_at bytes = do
  letters ← letters_at (drop 1 bytes)
  Ok (Some letters.0, letters.1)

-- Where a blank follows the minute, a BBB group stands behind it.
unfoldable pub bare_group_at : List ℕ → Result (Option (List ℕ) × List ℕ) MessageField
bare_group_at bytes = if starts_with nat_eq bytes (32 ∷ []) then group_at bytes else Ok (None, bytes)

-- In a message a blank that CR follows is meaningless.
unfoldable pub message_group_at : List ℕ → Result (Option (List ℕ) × List ℕ) MessageField
message_group_at bytes = if starts_with nat_eq bytes (32 ∷ 13 ∷ []) then Ok (None, bytes) else bare_group_at bytes

-- a heading with its group
abbrev pub with_group : HeadingFields → Option (List ℕ) → HeadingFields
with_group h group = record h { bbb = group }

-- a heading at the front
unfoldable pub bare_heading_at : List ℕ → Result (HeadingFields × List ℕ) MessageField
bare_heading_at bytes = do
  plain ← plain_heading_at bytes
  group ← bare_group_at plain.1
  Ok (with_group plain.0 group.0, group.1)

-- one blank or none is passed over
abbrev pub after_gap : List ℕ → List ℕ
after_gap bytes = if starts_with nat_eq bytes (32 ∷ []) then drop 1 bytes else bytes

-- a heading at the front, one blank or none, and CR CR LF
unfoldable pub heading_at : List ℕ → Result (HeadingFields × List ℕ) MessageField
heading_at bytes = do
  plain ← plain_heading_at bytes
  group ← message_group_at plain.1
  rest ← after_word EOL HeadingEnd (after_gap group.1)
  Ok (with_group plain.0 group.0, rest)

-- no blank stands here
abbrev pub NoBlank : List ℕ → Type 0
NoBlank bytes = starts_with nat_eq bytes (32 ∷ []) ≡ false
