-- The index over the pairs.
use Rattle.std.specs.Prelude.{◌≡◌, ℕ, ◌<◌, ◌≤◌, Bool, false, ◌&&◌, ◌==◌, nat_eq, List, length, reverse, find, Option, Some, None, option_map, if◌then◌else◌}
use Rattle.gts_dup.specs.Cited.Below.{Buffer, BuildHasherDefault, FoldHasher, HashMap, get, pointwise, spare}
use Rattle.gts_dup.specs.declared.key.Key.{Key}
use Rattle.gts_dup.specs.Window.{Window, is_of, Ascends}

-- from a digest to a position
abbrev pub Index : Type 0
Index = HashMap Key ℕ (BuildHasherDefault FoldHasher)

-- a digest as a key
abbrev pub key_of : List ℕ → Key
key_of digest = record { digest = digest }

-- the position that the index has for a digest
abbrev pub indexed : Index → List ℕ → Option ℕ
indexed index digest = get (λ a b. pointwise nat_eq a.digest b.digest) index (key_of digest)

-- the position of the last pair that has a digest
abbrev pub latest_of : List ℕ → List (List ℕ × ℕ) → Option ℕ
latest_of digest pairs = option_map (λ pair. pair.1) (find (is_of digest) (reverse pairs))

-- the index leads from each digest to its latest position
abbrev pub IsIndexOf : Index → List (List ℕ × ℕ) → Type 0
IsIndexOf index pairs = (digest : List ℕ) → indexed index digest ≡ latest_of digest pairs

-- a position is there, and is this one
abbrev pub is_position : Option ℕ → ℕ → Bool
is_position None n = false
is_position (Some position) n = position == n

-- a pair is gone from the index, where the index led to it
abbrev pub Forgets : Index → Index → List ℕ × ℕ → Type 0
Forgets old new pair =
    (digest : List ℕ) → indexed new digest
    ≡ (if is_of digest pair && is_position (indexed old pair.0) pair.1 then None else indexed old digest)

abbrev pub window_of : Buffer (List ℕ × ℕ) → Index → Window
window_of ring index = record { noted = ring.items; width = ring.capacity; spare = spare index }

-- there is room for one pair, and no more pairs than there is room for; the positions ascend; and the index is that of
-- the pairs
pub record IsSound (ring : Buffer (List ℕ × ℕ)) (table : Index) : Type 0 where
  pub room : 0 < ring.capacity
  pub within : length ring.items ≤ ring.capacity
  pub order : Ascends ring.items
  pub index : IsIndexOf table ring.items
