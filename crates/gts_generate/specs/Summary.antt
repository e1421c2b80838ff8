-- The summary of a day: what was said of it, and what the switch stands at behind it (profile).
use Rattle.std.specs.Prelude.{ℕ, ◌+◌, ◌-◌, Bool, true, ◌&&◌, ◌==◌, nat_eq, nat_le, List, [], ◌∷◌, ◌++◌, length, map, filter, count_by, sum, codes, if◌then◌else◌}
use Rattle.gts_generate.specs.Cited.Below.{ETX, Outside, channel_bytes, encode_lower, starts_with, then_number}
use Rattle.gts_event.specs.declared.values.Need.{Need}
use Rattle.sha2.specs.Sha256.{sha256}

-- the channels of the eight circuits
abbrev pub is_circuit : ℕ → Bool
is_circuit channel = nat_le 1 channel && nat_le channel 8

-- what was said on the channels of the circuits, over all of them in the order in which it was said
abbrev pub frames_said : Outside → List ℕ
frames_said outside = map (λ byte. byte.1) (filter (λ byte. is_circuit byte.0) outside)

-- how many lines begin with a word, where the first byte is the first one of a line or isn't; 10 is LF
abbrev pub lines_from : Bool → List ℕ → List ℕ → ℕ
lines_from begins word [] = 0
lines_from begins word (byte ∷ bytes) =
    (if begins && starts_with nat_eq (byte ∷ bytes) word then 1 else 0) + lines_from (byte == 10) word bytes

-- how many receipts begin with a word
abbrev pub receipts_of : List ℕ → Outside → ℕ
receipts_of word outside = lines_from true word (channel_bytes 0 outside)

-- how many frames were said: each ends with ETX, and no bulletin of the day has another
abbrev pub frames_in : List ℕ → ℕ
frames_in bytes = count_by (λ byte. byte == ETX) bytes

-- how many bulletins were drawn, over all circuits
abbrev pub draws_of : Need → ℕ
draws_of need = sum (map (λ circuit. circuit.draws) need.circuits)

-- a name and a number, ended by LF
abbrev pub line : List ℕ → ℕ → List ℕ
line name number = name ++ then_number number ++ 10 ∷ []

-- The summary of a day of so many messages, of which this was said, of which so many were accepted and drawn, and behind which
-- the journal has so many bytes in use.
abbrev pub summary_lines : ℕ → Outside → (accepted draws used : ℕ) → List ℕ
summary_lines count outside accepted draws used =
    line (codes "messages") count
    ++ line (codes "accepted") accepted
    ++ line (codes "duplicates") (receipts_of (codes "DUP") outside)
    ++ line (codes "requests") (receipts_of (codes "ASK") outside)
    ++ line (codes "draws") draws
    ++ line (codes "resends") (frames_in (frames_said outside) - draws)
    ++ line (codes "bytes") (length (frames_said outside))
    ++ line (codes "journal") used
    ++ codes "digest " ++ encode_lower (sha256 (frames_said outside)) ++ codes "\nend\n"

-- the summary of a day behind which this is needed
abbrev pub summary_text : ℕ → Outside → Need → ℕ → List ℕ
summary_text count outside need used = summary_lines count outside need.accepted (draws_of need) used
