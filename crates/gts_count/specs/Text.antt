-- The table as it is written from the running numbers.
use Rattle.std.specs.Prelude.{◌≡◌, ℕ, ◌+◌, Bool, not, ◌&&◌, ◌==◌, nat_eq, List, [], ◌∷◌, ◌++◌, length, flat_map, codes, if◌then◌else◌}
use Rattle.gts_count.specs.Cited.Below.{Buffer, pointwise}
use Rattle.std.specs.BTreeMap as tree
use Rattle.std.specs.HashMap as hash
use Rattle.gts_count.specs.declared.rows.Row.{Row}
use Rattle.gts_count.specs.declared.numbers.Numbers.{Numbers}
use Rattle.gts_count.specs.Table.{bytes_below, key_text, circuit_text}
use Rattle.gts_count.specs.Rows.{Rows}

-- not all numbers of a key are 0
abbrev pub is_counted : Row → Bool
is_counted row = not ((row.bulletins == 0) && (row.bytes == 0) && (row.draws == 0))

-- the line of a key that has numbers
abbrev pub entry_text : List ℕ × Row → List ℕ
entry_text e = if is_counted e.1 then key_text e.0 e.1.bulletins e.1.bytes e.1.draws else []

-- the rows in the order of their keys
abbrev pub SortedRows : Type 0
SortedRows = tree.BTreeMap (List ℕ) Row

-- these are the rows, in order: each key has the same row in both
abbrev pub AreInOrder : Rows → SortedRows → Type 0
AreInOrder rows sorted = (key : List ℕ) → tree.get bytes_below sorted key ≡ hash.get (pointwise nat_eq) rows key

-- the lines of all keys
abbrev pub key_lines : SortedRows → List ℕ
key_lines rows = flat_map entry_text rows.entries

-- the lines of circuits, where they count from c: how many bulletins came in, and the kept draws
abbrev pub numbers_lines : ℕ → List ℕ → List (Buffer (List ℕ)) → List ℕ
numbers_lines c (came ∷ rest) (ring ∷ rings) = circuit_text c came (length ring.items) ++ numbers_lines (c + 1) rest rings
numbers_lines c _ _ = []

-- all of it
abbrev pub numbers_text : SortedRows → Numbers → List ℕ
numbers_text rows n = key_lines rows ++ numbers_lines 0 n.came.items n.drawn.items ++ codes "end" ++ 10 ∷ []
