-- A hall's history: one pair for each turn, of the pass's name and the entry that the turn added.
use Rattle.std.specs.Prelude.{◌≡◌, ◌==◌, ℕ, suc, List, ◌++◌, map, length, if◌then◌else◌, nat_le}
use Rattle.std.specs.List.{filter}
use mathlib.Core.Option.{some}
use lib.ListN.{get_elem?}

module _ {E : Type 0} where
  -- the entries, without their names
  abbrev pub entries : List (ℕ × E) → List E
  entries history = map (λ x. x.1) history

  -- the entries under one name
  abbrev pub entries_under : ℕ → List (ℕ × E) → List E
  entries_under name history = entries (filter (λ x. x.0 == name) history)

  -- what was seen is a beginning of the history
  abbrev pub StartsWith : List (ℕ × E) → List (ℕ × E) → Type 0
  StartsWith history seen = (rest : List (ℕ × E)) × (history ≡ seen ++ rest)

  -- the history's last pair is this one
  abbrev pub EndsWith : List (ℕ × E) → ℕ × E → Type 0
  EndsWith history last = (k : ℕ) × (suc k ≡ length history) × (get_elem? history k ≡ some last)

  -- the longer one of two
  abbrev pub longer : List (ℕ × E) → List (ℕ × E) → List (ℕ × E)
  longer g h = if nat_le (length g) (length h) then h else g

  -- the shorter one of two
  abbrev pub shorter : List (ℕ × E) → List (ℕ × E) → List (ℕ × E)
  shorter g h = if nat_le (length g) (length h) then g else h
