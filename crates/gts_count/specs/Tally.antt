-- What is counted of a need, and the numbers of it, each counted from scratch.
use Rattle.std.specs.Prelude.{ℕ, Bool, nat_eq, ◌==◌, List, [], length, map, filter, sum_by, take, Some, None, if◌then◌else◌}
use Rattle.gts_count.specs.Cited.Below.{Bulletin, Directory, Need, find, heading_of, heading_text, is_recent, pointwise}
use Rattle.gts_count.specs.declared.recent.Recent.{Recent}
use Rattle.gts_count.specs.declared.recent.Arrival.{Arrival}

-- TTAAii CCCC: the first 11 bytes of a heading
abbrev pub key_of : List ℕ → List ℕ
key_of body = take 11 (heading_text (heading_of body))

-- the bulletins of the window, in the order in which they were accepted; and of each circuit the keys of the draws that are kept
pub record Tally : Type 0 where
  pub recent : List Recent
  pub drawn : List (List (List ℕ))

-- what is counted of a bulletin
abbrev pub recent_of : Bulletin → Recent
recent_of b = record { position = b.position; key = key_of b.body; from = b.from; bytes = length b.body }

-- the bulletin that a message is at a position
abbrev pub arrived : ℕ → Arrival → Recent
arrived position arrival = record { position = position; key = arrival.key; from = arrival.from; bytes = arrival.bytes }

-- the key of the bulletin at a position
abbrev pub key_at : List Bulletin → ℕ → List ℕ
key_at bulletins position = key_of (elim (find (λ b. b.position == position) bulletins) [ None ↦ [] | Some b ↦ b.body ])

-- the bulletins of the window
abbrev pub recent_in : Directory → ℕ → List Bulletin → List Recent
recent_in d accepted bulletins = map recent_of (filter (λ b. is_recent d accepted b.position) bulletins)

-- what is counted of a need
abbrev pub tally : Directory → Need → Tally
tally d n = record {
  recent = recent_in d n.accepted n.bulletins;
  drawn = map (λ c. map (key_at n.bulletins) c.kept) n.circuits;
}

-- ---- the numbers

-- a bulletin has a key
abbrev pub is_of : List ℕ → Recent → Bool
is_of key r = pointwise nat_eq key r.key

-- one where a test is passed
abbrev pub once : Bool → ℕ
once passed = if passed then 1 else 0

-- how many bulletins have a key
abbrev pub bulletins : Tally → List ℕ → ℕ
bulletins t key = sum_by (λ r. once (is_of key r)) t.recent

-- how many bytes the bodies of these bulletins have
abbrev pub bytes : Tally → List ℕ → ℕ
bytes t key = sum_by (λ r. if is_of key r then r.bytes else 0) t.recent

-- how many of the kept draws of a circuit have a key
abbrev pub draws_among : List ℕ → List (List ℕ) → ℕ
draws_among key kept = sum_by (λ k. once (pointwise nat_eq key k)) kept

-- how many of the kept draws of all circuits have a key
abbrev pub draws : Tally → List ℕ → ℕ
draws t key = sum_by (draws_among key) t.drawn

-- how many bulletins came in on a circuit
abbrev pub came : Tally → ℕ → ℕ
came t circuit = sum_by (λ r. once (r.from == circuit)) t.recent
