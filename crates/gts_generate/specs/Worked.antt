-- Rows of a day in literal bytes.
use Rattle.std.specs.Prelude.{◌≡◌, List, [], ◌∷◌, ◌++◌, ℕ, codes}
use Rattle.gts_generate.specs.Cited.Below.{HeadingFields, Outside, level_of, named, on}
use Rattle.gts_generate.specs.Day.{heading_at, body, turn, capture}
use Rattle.gts_generate.specs.Centre.{directory}
use Rattle.gts_generate.specs.Summary.{frames_said, frames_in, receipts_of}

-- the first message
abbrev pub FirstMessage : Type 0
FirstMessage =
    turn 0
    ≡ codes "F 00 000059\n00000049AN" ++ 1 ∷ codes "\r\r\n001\r\r\nSAVG00 TVSV 010000\r\r\nREPORT 000000=\r\r\n" ++ 3 ∷ codes "T 00\n"

-- the number 000 behind 999; a day later than 1, and an hour
abbrev pub LaterMessage : Type 0
LaterMessage =
    turn 7992
    ≡ codes "F 00 000059\n00000049AN" ++ 1 ∷ codes "\r\r\n000\r\r\nSKVG12 TVSV 061312\r\r\nREPORT 007992=\r\r\n" ++ 3 ∷ codes "T 00\n"

-- the fiftieth message is the one before it under its own number, and of the next hundred too
abbrev pub RepeatedMessages : Type 0
RepeatedMessages = (body 49 ≡ body 48) × (body 149 ≡ body 148)
    × (turn 49
    ≡ codes "F 01 000059\n00000049AN" ++ 1 ∷ codes "\r\r\n007\r\r\nSWVG48 TVSV 010048\r\r\nREPORT 000048=\r\r\n" ++ 3 ∷ codes "T 03\n")

-- the hundredth message
abbrev pub FirstRequest : Type 0
FirstRequest =
    turn 99
    ≡ codes "F 03 000060\n00000050AN" ++ 1 ∷ codes "\r\r\n013\r\r\nBMRR01 TVSV 010139\r\r\nAAAA\r\r\nSQN 001=\r\r\n" ++ 3 ∷ codes "T 01\n"

-- days without messages and of two
abbrev pub ShortDays : Type 0
ShortDays = (capture 0 ≡ codes "D 00\nD 01\nD 02\nD 03\nD 04\nD 05\nD 06\nD 07\nE\n") × (capture 2 ≡ turn 0 ++ turn 1 ++ capture 0)

-- the heading of a report with these two letters and this number
abbrev pub reported : List ℕ → ℕ → HeadingFields
reported tt ii = heading_at 0 tt (codes "VG") ii

-- What came in on the circuit that its number names goes to the third one behind it, what came in on another one to both.
abbrev pub WhoGetsWhat : Type 0
WhoGetsWhat = (named directory 0 (reported (codes "SA") 0) ≡ 3 ∷ []) × (named directory 4 (reported (codes "SA") 0) ≡ 0 ∷ 3 ∷ [])
    × (named directory 3 (reported (codes "SH") 59) ≡ 6 ∷ []) × (named directory 7 (reported (codes "SH") 59) ≡ 3 ∷ 6 ∷ [])

abbrev pub Levels : Type 0
Levels = (level_of directory (reported (codes "SA") 0) ≡ 1) × (level_of directory (reported (codes "SB") 0) ≡ 2)
    × (level_of directory (reported (codes "SC") 0) ≡ 4) × (level_of directory (reported (codes "SD") 0) ≡ 3)

-- two frames, a receipt between them, and what is said on no circuit's channel
abbrev pub told : Outside
told =
    on 0 (codes "ACC 0 0 1 DUP\nDUP 1 0\n") ++ on 4 (codes "two" ++ 3 ∷ []) ++ on 0 (codes "DUP 2 0\nASK 3 1 0\n")
    ++ on 1 (codes "one" ++ 3 ∷ []) ++ on 9 (codes "nine" ++ 3 ∷ [])

-- What was said on the circuits is taken over all of them, in the order in which it was said; receipts are told by their
-- first word.
abbrev pub WhatWasSaid : Type 0
WhatWasSaid = (frames_said told ≡ codes "two" ++ 3 ∷ codes "one" ++ 3 ∷ []) × (frames_in (frames_said told) ≡ 2)
    × (receipts_of (codes "DUP") told ≡ 2) × (receipts_of (codes "ASK") told ≡ 1)
