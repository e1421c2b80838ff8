-- The report of what changes where a journal is taken over: lines for the operator, each ended by LF (profile). Numbers are plain
-- decimals, and a circuit's has two digits.
use Rattle.std.specs.Prelude.{ℕ, ◌-◌, ◌==◌, ◌&&◌, Bool, nat_eq, nat_lt, List, [], ◌∷◌, ◌++◌, length, flat_map, get_or, Option, Some, if◌then◌else◌, codes, decimal}
use Rattle.gts_report.specs.Cited.Below.{Bulletin, Circuit, CircuitNeed, Directory, Full, MigrateFault, Need, Rule, Waits, bit_at, circuit_of, dec, goes_on, list_any, mask_of, need, pointwise, range_with_len, recent_among, refusal, unused, waits_closed}

-- the row of a circuit
abbrev pub row_of : Directory → ℕ → Circuit
row_of d c = get_or d.circuits c (circuit_of [] [])

-- what is needed of a circuit
abbrev pub need_of_circuit : Need → ℕ → CircuitNeed
need_of_circuit n c = get_or n.circuits c unused

-- ---- rules

-- two rules have the same pattern, and name the same circuits
abbrev pub same_rule : Rule → Rule → Bool
same_rule a b = pointwise nat_eq a.heading b.heading && (mask_of a.to == mask_of b.to)

-- a rule stands among others
abbrev pub has_rule : List Rule → Rule → Bool
has_rule rules rule = list_any (same_rule rule) rules

-- the names of circuits, each behind a blank (32)
abbrev pub names_text : Directory → List ℕ → List ℕ
names_text d to = flat_map (λ c. 32 ∷ (row_of d c).name) to

-- the name of a circuit whose bit a mask has
abbrev pub name_text : Directory → ℕ → ℕ → List ℕ
name_text d mask c = if bit_at mask c == 1 then 32 ∷ (row_of d c).name else []

-- rule WORD TTAAii CCCC to NAME NAME ..
abbrev pub rule_line : List ℕ → Directory → Rule → List ℕ
rule_line word d rule = codes "rule " ++ word ++ 32 ∷ [] ++ rule.heading ++ codes " to" ++ names_text d rule.to ++ 10 ∷ []

-- the line of a rule that doesn't stand among others
abbrev pub rule_change : List ℕ → Directory → List Rule → Rule → List ℕ
rule_change word d others rule = if has_rule others rule then [] else rule_line word d rule

-- the line of each such rule of a directory
abbrev pub rule_lines : List ℕ → Directory → List Rule → List ℕ
rule_lines word d others = flat_map (rule_change word d others) d.rules

-- ---- circuits

-- circuit cc NAME WORD
abbrev pub word_line : ℕ → List ℕ → List ℕ → List ℕ
word_line c name word = codes "circuit " ++ dec 2 c ++ 32 ∷ [] ++ name ++ 32 ∷ [] ++ word ++ 10 ∷ []

-- circuit cc NAME WORD n, unless there is none
abbrev pub count_line : ℕ → List ℕ → List ℕ → ℕ → List ℕ
count_line c name word n = if n == 0 then [] else word_line c name (word ++ 32 ∷ [] ++ decimal n)

-- whether a circuit was closed, and whether it is
abbrev pub closed_line : ℕ → List ℕ → Bool → Bool → List ℕ
closed_line c name was is =
    if is then (if was then [] else word_line c name (codes "closed"))
    else if was then word_line c name (codes "opened") else []

-- Of a circuit that stays, by its old and its new row and by what is needed of it before and behind: whether it is closed, or opened
-- again; how many of its draws can't be asked for any more; and how many wait on it while it is closed.
abbrev pub stays_lines : ℕ → Circuit → Circuit → CircuitNeed → CircuitNeed → List ℕ
stays_lines c old new before behind =
    closed_line c new.name old.closed new.closed
    ++ count_line c new.name (codes "forgotten") (length before.kept - length behind.kept)
    ++ count_line c new.name (codes "waiting") (waits_closed new before)

-- of a circuit, which is new where the old directory doesn't have it
abbrev pub circuit_lines : Directory → Directory → Need → Need → ℕ → List ℕ
circuit_lines new old before behind c =
    if nat_lt c (length old.circuits)
    then stays_lines c (row_of old c) (row_of new c) (need_of_circuit before c) (need_of_circuit behind c)
    else word_line c (row_of new c).name (codes "added")

-- of all circuits, in order
abbrev pub all_circuit_lines : Directory → Directory → Need → Need → List ℕ
all_circuit_lines new old before behind = flat_map (circuit_lines new old before behind) (range_with_len 0 (length new.circuits))

-- ---- duplicates, and what refuses

-- the bulletins whose duplicates are known
abbrev pub known : Directory → Need → List Bulletin
known d n = recent_among d n.accepted n.bulletins

-- duplicates forgotten n, unless there is none
abbrev pub duplicates_line : ℕ → List ℕ
duplicates_line n = if n == 0 then [] else codes "duplicates forgotten " ++ decimal n ++ 10 ∷ []

-- refused circuit cc waiting n, or refused full used n need n limit n
abbrev pub refused_line : Option MigrateFault → List ℕ
refused_line (Some (Waits c count)) = codes "refused circuit " ++ dec 2 c ++ codes " waiting " ++ decimal count ++ 10 ∷ []
refused_line (Some (Full used wanted limit)) =
    codes "refused full used " ++ decimal used ++ codes " need " ++ decimal wanted ++ codes " limit " ++ decimal limit ++ 10 ∷ []
refused_line _ = []

-- ---- all of it

-- the lines of the rules that go, and then of those that come
abbrev pub both_rule_lines : Directory → Directory → List ℕ
both_rule_lines new old = rule_lines (codes "out") old new.rules ++ rule_lines (codes "in") new old.rules

-- the need that a journal has once it was taken over, which `migrate` writes
abbrev pub behind : Directory → Directory → Need → Need
behind new old n = need new (goes_on new old n)

-- each circuit, how many bulletins are forgotten whose duplicates were known, what refuses it, and the end
abbrev pub beside_rules : Directory → Directory → Need → List ℕ
beside_rules new old n =
    all_circuit_lines new old n (behind new old n)
    ++ duplicates_line (length (known old n) - length (known new (behind new old n))) ++ refused_line (refusal new old n)
    ++ codes "end" ++ 10 ∷ []

-- What changes where a journal of this need is taken over: the rules that go and those that come, and what changes beside them.
abbrev pub changes : Directory → Directory → Need → List ℕ
changes new old n = both_rule_lines new old ++ beside_rules new old n
