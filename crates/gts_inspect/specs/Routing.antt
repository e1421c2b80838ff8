-- Where a bulletin would go, by the definitions of the directory.
use Rattle.std.specs.Prelude.{ℕ, ◌+◌, ◌<◌, Bool, Option, None, Some, ◌&&◌, List, [], ◌∷◌, ◌++◌, length, filter, if◌then◌else◌}
use Rattle.gts_inspect.specs.Cited.Below.{Directory, HeadingFields, list_any, matches, named, range_with_len}
use Rattle.gts_inspect.specs.Findings.{names}

-- the circuit is there, where one is said
abbrev pub IsThere : Directory → Option ℕ → Type 0
IsThere d None = Unit {0}
IsThere d (Some from) = from < length d.circuits

-- a rule that matches names a circuit
abbrev pub is_reached : Directory → HeadingFields → ℕ → Bool
is_reached d h c = list_any (λ rule. matches rule.heading h && names c rule) d.rules

-- the circuits of all rules that match
abbrev pub reached : Directory → HeadingFields → List ℕ
reached d h = filter (is_reached d h) (range_with_len 0 (length d.circuits))

-- The circuits that get a bulletin that came in on a circuit; or, where none is said, that came from elsewhere.
abbrev pub circuits_from : Directory → HeadingFields → Option ℕ → List ℕ
circuits_from d h None = reached d h
circuits_from d h (Some from) = named d from h

-- a number, where something is so
abbrev pub where_holds : Bool → ℕ → List ℕ
where_holds holds n = if holds then n ∷ [] else []

-- the places of the rows that pass a test, where they count from n
abbrev pub places : {A : Type 0} → (A → Bool) → ℕ → List A → List ℕ
places test n [] = []
places test n (row ∷ rows) = where_holds (test row) n ++ places test (n + 1) rows

-- the rules that match
abbrev pub matching : Directory → HeadingFields → List ℕ
matching d h = places (λ rule. matches rule.heading h) 0 d.rules
