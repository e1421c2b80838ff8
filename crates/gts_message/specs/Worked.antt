-- The messages of the worked examples.
use Rattle.std.specs.Prelude.{ℕ, List, [], ◌∷◌, ◌++◌, Some, None, codes}
use Rattle.gts_message.specs.Cited.Below.{EOL, message_of}
use Rattle.gts_heading.specs.Worked.{worked_heading}
use Rattle.gts_message.specs.Message.{MessageParts, message_end}

-- a heading, CR CR LF, a text and the end, whatever these bytes are
abbrev pub worked_body : List ℕ → List ℕ → List ℕ
worked_body heading text = heading ++ EOL ++ text ++ message_end

-- SMVG01 TVSV 280000
abbrev pub plain_heading : List ℕ
plain_heading = codes "SMVG01 TVSV 280000"

-- a message with this line of its number, this heading and this text
abbrev pub worked_message : List ℕ → List ℕ → List ℕ → List ℕ
worked_message number heading text = message_of number (worked_body heading text)

-- the parts of a message with that heading, without a group
abbrev pub plain_parts : ℕ → ℕ → List ℕ → MessageParts
plain_parts number digits text =
    record { number = number; digits = digits; heading = worked_heading None; text = text; body = worked_body plain_heading text }

-- the parts of message 001 with group RRA, and a blank behind it
abbrev pub grouped_parts : List ℕ → MessageParts
grouped_parts text =
    let body : List ℕ = worked_body (plain_heading ++ codes " RRA ") text in
    record { number = 1; digits = 3; heading = worked_heading (Some (codes "RRA")); text = text; body = body }

-- a text of ten bytes, with CR CR LF and ETX among them
abbrev pub ten_binary_bytes : List ℕ
ten_binary_bytes = codes "BUFR" ++ 0x03 ∷ 0x0d ∷ 0x0d ∷ 0x0a ∷ 0x03 ∷ 0x37 ∷ []
