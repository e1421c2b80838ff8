-- Worked rows: reports of literal needs.
use Rattle.std.specs.Prelude.{◌≡◌, ℕ, true, List, [], ◌∷◌, ◌++◌, flat_map, codes}
use Rattle.gts_report.specs.Cited.Below.{An, Bulletin, Circuit, Directory, Need, Rule, unused}
use Rattle.gts_event.specs.Worked.{two, three, circuit_to, body_text}
use Rattle.gts_report.specs.Changes.{changes}

-- lines, each ended by LF
abbrev pub lines : List (List ℕ) → List ℕ
lines texts = flat_map (λ text. text ++ 10 ∷ []) texts

-- a bulletin of circuit A at a position
abbrev pub bulletin : ℕ → Bulletin
bulletin position = record { position = position; from = 0; kind = An; body = body_text (codes "SMVG01 TVSV 280000") (codes "NIL=") }

-- Three bulletins came in on A. Two were drawn on B, and the third waits there.
abbrev pub three_came : Need
three_came = record {
  accepted = 3;
  bulletins = bulletin 0 ∷ bulletin 1 ∷ bulletin 2 ∷ [];
  circuits = unused ∷ record unused { draws = 2; kept = 0 ∷ 1 ∷ []; waiting = 2 ∷ [] } ∷ [];
}

-- rules of the two circuits
abbrev pub with_rules : List Rule → Directory
with_rules rules = record two { rules = rules }

abbrev pub all_to : List ℕ → Rule
all_to to = record { heading = codes "****** ****"; to = to }

-- the row of B
abbrev pub row_b : Circuit
row_b = circuit_to (codes "B") (codes "BBBB") 1000 7003

-- the two circuits with another row of B
abbrev pub with_b : Circuit → Directory
with_b row = record two { circuits = circuit_to (codes "A") (codes "AAAA") 1000 7001 ∷ row ∷ [] }

-- Nothing is told, whatever the order of the rules.
abbrev pub NothingChanges : Type 0
NothingChanges = (changes two two three_came ≡ lines (codes "end" ∷ []))
    × (changes (with_rules (all_to (1 ∷ []) ∷ all_to (0 ∷ []) ∷ [])) (with_rules (all_to (0 ∷ []) ∷ all_to (1 ∷ []) ∷ [])) three_came
    ≡ lines (codes "end" ∷ []))

-- A rule is taken out; and one names fewer circuits.
abbrev pub RuleGone : Type 0
RuleGone = (changes (with_rules []) two three_came ≡ lines (codes "rule out ****** **** to A B" ∷ codes "end" ∷ []))
    × (changes (with_rules (all_to (1 ∷ []) ∷ [])) two three_came
    ≡ lines (codes "rule out ****** **** to A B" ∷ codes "rule in ****** **** to B" ∷ codes "end" ∷ []))

-- B is closed, on which one waits.
abbrev pub CircuitClosed : Type 0
CircuitClosed = changes (record (with_b (record row_b { closed = true })) { rules = all_to (0 ∷ []) ∷ [] }) two three_came
    ≡ lines (codes "rule out ****** **** to A B" ∷ codes "rule in ****** **** to A" ∷ codes "circuit 01 B closed"
    ∷ codes "circuit 01 B waiting 1" ∷ codes "refused circuit 01 waiting 1" ∷ codes "end" ∷ [])

-- B keeps one draw; it has five digits; the window is one; circuit C is added, under other rules.
abbrev pub LessKept : Type 0
LessKept = (changes (with_b (record row_b { kept = 1 })) two three_came ≡ lines (codes "circuit 01 B forgotten 1" ∷ codes "end" ∷ []))
    × (changes (with_b (record row_b { digits = 5 })) two three_came ≡ lines (codes "circuit 01 B forgotten 2" ∷ codes "end" ∷ []))
    × (changes (record two { window = 1 }) two three_came ≡ lines (codes "duplicates forgotten 2" ∷ codes "end" ∷ []))
    × (changes (record (three (codes "CCCC")) { rules = two.rules }) two three_came
    ≡ lines (codes "circuit 02 C added" ∷ codes "end" ∷ []))
