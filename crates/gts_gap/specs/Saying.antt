-- What is said of the numbers that are missing, on the channels on which it is said (profile).
use Rattle.std.specs.Prelude.{ℕ, zero, suc, ◌+◌, List, [], ◌∷◌, ◌++◌, length, codes}
use Rattle.gts_gap.specs.Cited.Below.{Directory, EOL, Outside, SOH, dec, on, peer_of}
use Rattle.gts_gap.specs.Numbers.{Numbered}
use Rattle.gts_gap.specs.Gaps.{Run, gaps}
use Rattle.gts_gap.specs.Asking.{ask_frame, ask_heading, ask_text, gap_lines, item_text}
use Rattle.gts_gap.specs.Ring.{digits_of}
use Rattle.gts_gap.specs.Text.{run_of}
use Rattle.gts_gap.specs.declared.moment.Moment.{Moment}

-- the request for these runs on a circuit: to its peer, at this moment, by the own centre
abbrev pub request_of : Directory → Moment → (c w : ℕ) → List Run → List ℕ
request_of d moment c w missing = ask_frame (ask_heading (peer_of d c) moment.day moment.hour moment.minute) (ask_text d.centre w missing)

-- where numbers are missing, the request for them is said on the circuit's channel
abbrev pub asked : Directory → Moment → (c w : ℕ) → List Run → Outside
asked d moment c w [] = []
asked d moment c w (run ∷ more) = on (c + 1) (request_of d moment c w (run ∷ more))

-- what is said of a circuit: on channel 0 a line for each gap, and then the request for them
abbrev pub said_of : Directory → Moment → ℕ → List Numbered → Outside
said_of d moment c ns = on 0 (gap_lines c (digits_of ns) (gaps ns)) ++ asked d moment c (digits_of ns) (gaps ns)

-- what is said of so many circuits from one on, on each of which these numbers came
abbrev pub said_from : Directory → Moment → (ℕ → List Numbered) → (c count : ℕ) → Outside
said_from d moment numbers c zero = []
said_from d moment numbers c (suc count) = said_of d moment c (numbers c) ++ said_from d moment numbers (c + 1) count

-- what is said of all circuits, and the end of it
abbrev pub report : Directory → Moment → (ℕ → List Numbered) → Outside
report d moment numbers = said_from d moment numbers 0 (length d.circuits) ++ on 0 (codes "end\n")

-- ---- as it is said

-- the line of a run as it is given
abbrev pub run_line : ℕ → ℕ × ℕ × ℕ → List ℕ
run_line c run = codes "gap " ++ dec 2 c ++ codes " " ++ item_text run.2 (run_of run) ++ codes "\n"

abbrev pub run_lines : ℕ → List (ℕ × ℕ × ℕ) → List ℕ
run_lines c [] = []
run_lines c (run ∷ more) = run_line c run ++ run_lines c more

-- what stands in front of the text of a request, whose message has so many bytes
abbrev pub front_text : List ℕ → Moment → ℕ → List ℕ
front_text peer moment size =
    dec 8 size ++ codes "AN" ++ SOH ∷ [] ++ EOL ++ codes "000" ++ EOL ++ codes "BMRR01 " ++ peer ++ codes " "
    ++ dec 2 moment.day ++ dec 2 moment.hour ++ dec 2 moment.minute ++ EOL
