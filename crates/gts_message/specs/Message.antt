-- A message as the concatenation of its parts, and its fields read from left to right (the Manual's message format; the
-- gaps and the limit are this project's profile).
use Rattle.std.specs.Prelude.{◌≡◌, ◌⊎◌, ℕ, ◌-◌, ◌<◌, ◌≤◌, ◌^◌, ◌&&◌, ◌||◌, ◌==◌, nat_eq, nat_le, List, [], ◌∷◌, ◌++◌, length, take, drop, take_while, Option, Some, None, Result, Ok, Err, if◌then◌else◌}
use Rattle.gts_message.specs.Cited.Below.{EOL, ETX, End, HeadingFields, HeadingStart, IsGap, IsHeading, LONGEST_BODY, MessageField, Number, SOH, Size, StartLine, after_gap, after_word, dec, digits_value, ends_with, fields_of, heading_at, heading_text, is_ascii_digit, message_of}
use Rattle.gts_heading.specs.Reading.{◌>>=◌}
use Rattle.gts_message.specs.declared.message.SplitMessage.{SplitMessage}

-- the parts of a message, without where they lie in memory
pub record MessageParts : Type 0 where
  pub number : ℕ
  pub digits : ℕ
  pub heading : HeadingFields
  pub text : List ℕ
  pub body : List ℕ

-- the end of a message
abbrev pub message_end : List ℕ
message_end = EOL ++ ETX ∷ []

-- heading, one blank or none, CR CR LF, text, CR CR LF, ETX
pub record IsBody (body : List ℕ) (heading : HeadingFields) (text : List ℕ) : Type 0 where
  pub heading_is : IsHeading heading
  pub spelled : (gap : List ℕ) × IsGap gap × (body ≡ heading_text heading ++ gap ++ EOL ++ text ++ message_end)

-- SOH, CR CR LF, a number of three digits or five, one blank or none, CR CR LF, and the body
pub record IsMessage (message : List ℕ) (parts : MessageParts) : Type 0 where
  pub digits : (parts.digits ≡ 3) ⊎ (parts.digits ≡ 5)
  pub number : parts.number < 10 ^ parts.digits
  pub body : IsBody parts.body parts.heading parts.text
  pub short : length parts.body ≤ LONGEST_BODY
  pub spelled : (gap : List ℕ) × IsGap gap × (message ≡ message_of (dec parts.digits parts.number ++ gap) parts.body)

-- the digits at the front, as many as there are
abbrev pub digit_run : List ℕ → List ℕ
digit_run bytes = take_while is_ascii_digit bytes

-- a number of three digits or five, how many, and the bytes behind them
unfoldable pub number_at : List ℕ → Result (ℕ × ℕ × List ℕ) MessageField
number_at bytes =
    if (length (digit_run bytes) == 3) || (length (digit_run bytes) == 5)
    then Ok (digits_value 10 (digit_run bytes), length (digit_run bytes), drop (length (digit_run bytes)) bytes)
    else Err Number

-- the text: all but the end
unfoldable pub text_at : List ℕ → Result (List ℕ) MessageField
text_at bytes = if nat_le 4 (length bytes) && ends_with nat_eq bytes message_end then Ok (take (length bytes - 4) bytes) else Err End

-- the heading and the text of a body
unfoldable pub body_at : List ℕ → Result (HeadingFields × List ℕ) MessageField
body_at body = do
  heading ← heading_at body
  text ← text_at heading.1
  Ok (heading.0, text)

-- the parts of a message of this number, of so many digits, and this body, or the first field of the body at fault
abbrev pub parts_around : ℕ → ℕ → List ℕ → Result MessageParts MessageField
parts_around number digits body = do
  found ← body_at body
  if nat_le (length body) LONGEST_BODY
      then Ok (record { number = number; digits = digits; heading = found.0; text = found.1; body = body })
      else Err Size

-- the parts of a message, or the first field at fault
unfoldable pub split_at : List ℕ → Result MessageParts MessageField
split_at message = do
  start ← after_word (SOH ∷ EOL) StartLine message
  number ← number_at start
  body ← after_word EOL HeadingStart (after_gap number.2)
  parts_around number.0 number.1 body

-- the first field at fault; none exactly where it is a message
abbrev pub fault : List ℕ → Option MessageField
fault message = elim (split_at message) [ Ok _ ↦ None | Err field ↦ Some field ]

-- the parts that a call answers
abbrev pub parts_of : SplitMessage → MessageParts
parts_of p = record { number = p.number; digits = p.digits; heading = fields_of p.heading; text = p.text.now; body = p.body.now }
