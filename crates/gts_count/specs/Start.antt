-- The numbers that a start has: nothing counted, and then its bulletins and its kept draws, one after another.
use Rattle.std.specs.Prelude.{◌≡◌, ℕ, ◌<◌, ◌≤◌, ◌==◌, List, [], ◌∷◌, ◌++◌, length, map, option_map, unwrap_or, slice_set, slice_index_or, Option, Some, is_ok, IsTrue}
use Rattle.gts_count.specs.Cited.Below.{All, BTreeMap, Buffer, Bulletin, CircuitNeed, Directory, Need, body_at, buffer, find, get, keep_last, nat_cmp, unused}
use Rattle.gts_count.specs.declared.numbers.Numbers.{Numbers}
use Rattle.gts_count.specs.Tally.{tally, key_of, recent_in}
use Rattle.gts_count.specs.Rows.{has_row}
use Rattle.gts_count.specs.Numbers.{IsSound, all_joined, tally_of, ring_at}

-- the capacities of the rings are those of the directory
pub record HasRings (d : Directory) (n : Numbers) : Type 0 where
  pub sound : IsSound n
  pub window : n.recent.capacity ≡ d.window
  pub kept : map (λ q. q.capacity) n.drawn.items ≡ map (λ row. row.kept) d.circuits

-- no key is kept
abbrev pub nothing_drawn : Directory → List (List (List ℕ))
nothing_drawn d = map (λ row. []) d.circuits

-- nothing is counted
pub record Begins (d : Directory) (n : Numbers) : Type 0 where
  pub rings : HasRings d n
  pub recent : n.recent.items ≡ []
  pub drawn : map (λ q. q.items) n.drawn.items ≡ nothing_drawn d

-- each of these bulletins has a row
abbrev pub HaveRows : Numbers → List Bulletin → Type 0
HaveRows n bulletins = All (λ b. IsTrue (has_row n.rows (key_of b.body))) bulletins

-- one bulletin of a start was noted: its key has a row, and where it is recent it joined the window
pub record NotesStart (d : Directory) (accepted : ℕ) (bulletin : Bulletin) (old new : Numbers) : Type 0 where
  pub rings : HasRings d old → HasRings d new
  pub recent : new.recent.items ≡ all_joined old.recent.capacity old.recent.items (recent_in d accepted (bulletin ∷ []))
  pub window : new.recent.capacity ≡ old.recent.capacity
  pub drawn : new.drawn ≡ old.drawn
  pub has : IsTrue (has_row new.rows (key_of bulletin.body))
  pub rows : (key : List ℕ) → IsTrue (has_row old.rows key) → IsTrue (has_row new.rows key)

-- the first bulletin of a position
abbrev pub at_position : ℕ → List Bulletin → Option Bulletin
at_position position bulletins = find (λ b. b.position == position) bulletins

-- each position has the key of its bulletin
abbrev pub HasKeys : List Bulletin → BTreeMap ℕ (List ℕ) → Type 0
HasKeys bulletins keys = (p : ℕ) → get nat_cmp keys p ≡ option_map (λ b. key_of b.body) (at_position p bulletins)

-- each bulletin has a body that can be read
abbrev pub AreBodies : List Bulletin → Type 0
AreBodies bulletins = All (λ b. IsTrue (is_ok (body_at b.body))) bulletins

-- the key of a position
abbrev pub key_by : BTreeMap ℕ (List ℕ) → ℕ → List ℕ
key_by keys position = unwrap_or (get nat_cmp keys position) []

-- the key of each position has a row
abbrev pub HasEachRow : BTreeMap ℕ (List ℕ) → Numbers → Type 0
HasEachRow keys n = (p : ℕ) (key : List ℕ) → get nat_cmp keys p ≡ Some key → IsTrue (has_row n.rows key)

-- keys joined a ring, of which the last are kept
abbrev pub ring_with : Buffer (List ℕ) → List (List ℕ) → Buffer (List ℕ)
ring_with ring keys = buffer (keep_last ring.capacity (ring.items ++ keys)) ring.capacity

-- the keys of these positions joined the draws of a circuit
pub record NotesKept (keys : BTreeMap ℕ (List ℕ)) (circuit : ℕ) (kept : List ℕ) (old new : Numbers) : Type 0 where
  pub sound : IsSound new
  pub drawn : new.drawn.items ≡ slice_set old.drawn.items circuit (ring_with (ring_at old circuit) (map (key_by keys) kept))
  pub recent : new.recent ≡ old.recent
  pub rows : (key : List ℕ) → has_row new.rows key ≡ has_row old.rows key
  pub came : new.came ≡ old.came

-- the bulletins of a start were noted
pub record NotesAll (d : Directory) (accepted : ℕ) (bulletins : List Bulletin) (old new : Numbers) : Type 0 where
  pub rings : HasRings d new
  pub recent : new.recent.items ≡ all_joined d.window [] (recent_in d accepted bulletins)
  pub drawn : new.drawn ≡ old.drawn
  pub rows : HaveRows new bulletins

-- the kept draws of the first circuits were noted
pub record NotesDraws (keys : BTreeMap ℕ (List ℕ)) (circuits : List CircuitNeed) (old new : Numbers) : Type 0 where
  pub sound : IsSound new
  pub count : length new.drawn.items ≡ length old.drawn.items
  pub noted : (k : ℕ) → k < length circuits
      → ring_at new k ≡ ring_with (ring_at old k) (map (key_by keys) (slice_index_or circuits k unused).kept)
  pub rest : (k : ℕ) → length circuits ≤ k → ring_at new k ≡ ring_at old k
  pub recent : new.recent ≡ old.recent
  pub rows : (key : List ℕ) → has_row new.rows key ≡ has_row old.rows key
  pub came : new.came ≡ old.came

-- the numbers are those of a need, and each of its bulletins has its row
pub record Starts (d : Directory) (n : Need) (numbers : Numbers) : Type 0 where
  pub rings : HasRings d numbers
  pub counted : tally_of numbers ≡ tally d n
  pub rows : HaveRows numbers n.bulletins
