-- A day of a centre with eight circuits: what comes on them and when something is taken (profile).
use Rattle.std.specs.Prelude.{ℕ, ◌+◌, ◌-◌, ◌*◌, ◌/◌, ◌%◌, ◌==◌, List, [], ◌∷◌, ◌++◌, map, flat_map, codes, None, if◌then◌else◌}
use Rattle.gts_generate.specs.Cited.Below.{An, Drain, EOL, EndHead, Feed, HeadingFields, Step, Take, dec, frame, head_text, heading_text, message_end, message_of, range_with_len, step_text}

-- A heading of message i with the time at which it comes: message i comes in minute i, and the days go from 1 to 28.
abbrev pub heading_at : ℕ → (tt aa : List ℕ) → (ii : ℕ) → HeadingFields
heading_at i tt aa ii = record {
  tt = tt;
  aa = aa;
  ii = ii;
  cccc = codes "TVSV";
  day = 1 + (i / 1440) % 28;
  hour = (i / 60) % 24;
  minute = i % 60;
  bbb = None;
}

-- heading, line end, text and the end of a message
abbrev pub body_of : HeadingFields → List ℕ → List ℕ
body_of heading text = heading_text heading ++ EOL ++ text ++ message_end

-- S, one of the 26 letters, VG, and the number i mod 60; REPORT, i in six digits, and an equals sign
abbrev pub report : ℕ → List ℕ
report i = body_of (heading_at i (83 ∷ (65 + i % 26) ∷ []) (codes "VG") (i % 60)) (codes "REPORT " ++ dec 6 i ++ codes "=")

-- the first frame of its circuit is asked for once more
abbrev pub request : ℕ → List ℕ
request i = body_of (heading_at i (codes "BM") (codes "RR") 1) (codes "AAAA" ++ EOL ++ codes "SQN 001=")

-- Of a hundred messages the last one is a request, the fiftieth is the report before it once more, all others are reports.
abbrev pub body : ℕ → List ℕ
body i = if i % 100 == 99 then request i else if i % 100 == 49 then report (i - 1) else report i

-- message i, under the number of its place on its circuit
abbrev pub message : ℕ → List ℕ
message i = message_of (dec 3 ((i / 8 + 1) % 1000)) (body i)

-- Message i comes on circuit i mod 8, and something is taken on circuit 3 i mod 8.
abbrev pub steps_of : ℕ → List Step
steps_of i = Feed (i % 8) (frame An (message i)) ∷ Take ((3 * i) % 8) ∷ []

-- all that waits on the eight circuits is taken
abbrev pub drains : List Step
drains = map Drain (range_with_len 0 8)

-- the steps of a day of so many messages
abbrev pub steps : ℕ → List Step
steps count = flat_map steps_of (range_with_len 0 count) ++ drains

-- the capture of a day of so many messages
abbrev pub capture : ℕ → List ℕ
capture count = flat_map step_text (steps count) ++ head_text EndHead

-- what stands in the capture for message i, and behind all messages
abbrev pub turn : ℕ → List ℕ
turn i = flat_map step_text (steps_of i)

abbrev pub ending : List ℕ
ending = flat_map step_text drains ++ head_text EndHead

-- the capture from message i on, with so many messages to come
abbrev pub capture_from : ℕ → ℕ → List ℕ
capture_from i more = flat_map turn (range_with_len i more) ++ ending
