-- What is held to be said.
use Rattle.std.specs.Prelude.{◌≡◌, ℕ, ◌+◌, ◌<◌, ◌≤◌, List, [], ◌∷◌, ◌++◌, length, take, drop, sum_by}
use Rattle.gts_engine.specs.Cited.Below.{Outside, on}
use Rattle.gts_engine.specs.declared.held.Saying.{Saying}
use Rattle.gts_engine.specs.declared.held.TheConstants.{MOST_BYTES, MOST_SAYINGS}

-- The channel and the size of each saying, in order, and the bytes of all of them.
pub record Sayings : Type 0 where
  pub each : List Saying
  pub bytes : List ℕ

-- what each of them says
abbrev pub pieces_of : List Saying → List ℕ → List Outside
pieces_of [] bytes = []
pieces_of (saying ∷ sayings) bytes = on saying.channel (take saying.size bytes) ∷ pieces_of sayings (drop saying.size bytes)

-- what is held: one piece for each event that was gathered
abbrev pub held_pieces : Sayings → List Outside
held_pieces held = pieces_of held.each held.bytes

-- one piece behind the other
abbrev pub joined : List Outside → Outside
joined [] = []
joined (piece ∷ pieces) = piece ++ joined pieces

-- how many bytes they have
abbrev pub sizes_of : List Saying → ℕ
sizes_of sayings = sum_by (λ saying. saying.size) sayings

-- the sizes are those of the bytes
abbrev pub AreSayings : List Saying → List ℕ → Type 0
AreSayings each bytes = sizes_of each ≡ length bytes

-- so many bytes more may be held
abbrev pub HasRoom : Sayings → ℕ → Type 0
HasRoom held size = (length held.each < MOST_SAYINGS) × (length held.bytes + size ≤ MOST_BYTES)

-- nothing is held
abbrev pub no_sayings : Sayings
no_sayings = record { each = []; bytes = [] }
