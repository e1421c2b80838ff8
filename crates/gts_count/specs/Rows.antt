-- The running numbers: a row for each key.
use Rattle.std.specs.Prelude.{◌≡◌, ℕ, ◌+◌, ◌-◌, Bool, nat_eq, IsTrue, List, Option, Some, None, is_some, if◌then◌else◌}
use Rattle.gts_count.specs.Cited.Below.{BuildHasherDefault, FoldHasher, HashMap, pointwise}
use Rattle.std.specs.HashMap.{get}
use Rattle.gts_count.specs.declared.recent.Recent.{Recent}
use Rattle.gts_count.specs.declared.rows.Row.{Row}
use Rattle.gts_count.specs.Tally.{Tally, bulletins, bytes, draws}

-- from a key to its numbers
abbrev pub Rows : Type 0
Rows = HashMap (List ℕ) Row (BuildHasherDefault FoldHasher)

-- no numbers
abbrev pub no_row : Row
no_row = record { bulletins = 0; bytes = 0; draws = 0 }

-- the numbers that were found, or zeros
abbrev pub row_in : Option Row → Row
row_in None = no_row
row_in (Some row) = row

-- the numbers of a key
abbrev pub row_at : Rows → List ℕ → Row
row_at rows key = row_in (get (pointwise nat_eq) rows key)

-- a key has a row
abbrev pub has_row : Rows → List ℕ → Bool
has_row rows key = is_some (get (pointwise nat_eq) rows key)

-- one key has these numbers, and each other one those that it had; the same keys have rows
pub record ChangesRow (old new : Rows) (key : List ℕ) (row : Row) : Type 0 where
  pub numbers : (k : List ℕ) → row_at new k ≡ (if pointwise nat_eq k key then row else row_at old k)
  pub keeps : (k : List ℕ) → has_row new k ≡ has_row old k

-- each key has the numbers that it had, and keeps its row
pub record AddsRow (old new : Rows) : Type 0 where
  pub numbers : (k : List ℕ) → row_at new k ≡ row_at old k
  pub keeps : (k : List ℕ) → IsTrue (has_row old k) → IsTrue (has_row new k)

-- the numbers with a bulletin more, and with one less
abbrev pub with_bulletin : Recent → Row → Row
with_bulletin b row = record row { bulletins = row.bulletins + 1; bytes = row.bytes + b.bytes }

abbrev pub without_bulletin : Recent → Row → Row
without_bulletin b row = record row { bulletins = row.bulletins - 1; bytes = row.bytes - b.bytes }

-- the numbers with a draw more, and with one less
abbrev pub with_draw : Row → Row
with_draw row = record row { draws = row.draws + 1 }

abbrev pub without_draw : Row → Row
without_draw row = record row { draws = row.draws - 1 }

-- the numbers of a key, counted from scratch
abbrev pub counted : Tally → List ℕ → Row
counted t key = record { bulletins = bulletins t key; bytes = bytes t key; draws = draws t key }

-- each key has the numbers that are counted
abbrev pub IsCount : Tally → Rows → Type 0
IsCount t rows = (key : List ℕ) → row_at rows key ≡ counted t key
