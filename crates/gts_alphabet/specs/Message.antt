-- The parts that every message is put together from (WMO-No. 386, message format).
use Rattle.std.specs.Prelude.{ℕ, List, [], ◌∷◌, ◌++◌}
use Rattle.gts_alphabet.specs.declared.characters.TheConstants.{SOH, EOL}

-- a message with these bytes as its sequence number line, and this body: all from the heading to ETX
abbrev pub message_of : List ℕ → List ℕ → List ℕ
message_of number body = SOH ∷ [] ++ EOL ++ number ++ EOL ++ body
