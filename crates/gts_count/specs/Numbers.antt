-- The running numbers beside what they count.
use Rattle.std.specs.Prelude.{◌≡◌, ℕ, ◌-◌, ◌<◌, ◌≤◌, ◌^◌, ◌==◌, ◌||◌, nat_le, Bool, false, if◌then◌else◌, List, [], ◌∷◌, ◌++◌, length, drop, map, slice_index_or}
use Rattle.gts_count.specs.Cited.Below.{All, Buffer, buffer, keep_last}
use Rattle.gts_count.specs.declared.recent.Recent.{Recent}
use Rattle.gts_count.specs.declared.numbers.Numbers.{Numbers}
use Rattle.gts_count.specs.Tally.{Tally, came}
use Rattle.gts_count.specs.Rows.{IsCount}

-- what was counted
abbrev pub tally_of : Numbers → Tally
tally_of n = record { recent = n.recent.items; drawn = map (λ q. q.items) n.drawn.items }

-- a bulletin came in on a circuit that is there, and its body has a length of 32 bits
abbrev pub IsSmall : ℕ → Recent → Type 0
IsSmall circuits r = (r.from < circuits) × (r.bytes < 2 ^ 32)

-- a ring isn't too long
abbrev pub IsRing : {X : Type 0} → Buffer X → Type 0
IsRing ring = (length ring.items ≤ ring.capacity) × (1 ≤ ring.capacity) × (ring.capacity < 2 ^ 32)

-- each circuit has the number of bulletins that came in there
abbrev pub HasCame : Tally → List ℕ → Type 0
HasCame t numbers = (c : ℕ) → c < length numbers → slice_index_or numbers c 0 ≡ came t c

-- All numbers are those of what was counted.
pub record IsSound (n : Numbers) : Type 0 where
  pub rows : IsCount (tally_of n) n.rows
  pub came : HasCame (tally_of n) n.came.items
  pub small : All (IsSmall (length n.came.items)) n.recent.items
  pub window : IsRing n.recent
  pub kept : All IsRing n.drawn.items
  pub circuits : (length n.drawn.items ≡ length n.came.items) × (length n.drawn.items < 2 ^ 31)

-- The oldest bulletin leaves the window when one of this position joins it: its own position is then no longer among the last
-- ones, or there is no room.
abbrev pub leaves : ℕ → List Recent → ℕ → Bool
leaves width [] position = false
leaves width (oldest ∷ rest) position = nat_le width (position - oldest.position) || (length (oldest ∷ rest) == width)

-- the bulletins of the window with one more
abbrev pub joined : ℕ → List Recent → Recent → List Recent
joined width recents bulletin = (if leaves width recents bulletin.position then drop 1 recents else recents) ++ bulletin ∷ []

-- with more, one after another
abbrev pub all_joined : ℕ → List Recent → List Recent → List Recent
all_joined width recents [] = recents
all_joined width recents (bulletin ∷ more) = all_joined width (joined width recents bulletin) more

-- a circuit that keeps nothing
abbrev pub no_ring : Buffer (List ℕ)
no_ring = record { items = []; capacity = 0 }

-- the keys of the kept draws of a circuit
abbrev pub ring_at : Numbers → ℕ → Buffer (List ℕ)
ring_at n c = slice_index_or n.drawn.items c no_ring

-- a ring without its oldest key; with one more; and with one more, of which the last are kept
abbrev pub without_oldest : Buffer (List ℕ) → Buffer (List ℕ)
without_oldest ring = buffer (drop 1 ring.items) ring.capacity

abbrev pub with_newest : Buffer (List ℕ) → List ℕ → Buffer (List ℕ)
with_newest ring key = buffer (ring.items ++ key ∷ []) ring.capacity

abbrev pub kept_with : Buffer (List ℕ) → List ℕ → Buffer (List ℕ)
kept_with ring key = buffer (keep_last ring.capacity (ring.items ++ key ∷ [])) ring.capacity
