-- What stands in front of the parts of a checkpoint, and what these are by their first bytes.
use Rattle.std.specs.Prelude.{◌≡◌, ◌≤◌, ℕ, nat_eq, if◌then◌else◌, List, ◌∷◌, ◌++◌, length, take, drop, replicate, codes, Option, Some, None}
use Rattle.gts_checkpoint.specs.Cited.Below.{An, Kind, LONGEST_BODY, Need, bulletin_in, bulletin_text, bytes_of, circuit_in, circuit_text, letters, need_in, starts_with}
use Rattle.gts_checkpoint.specs.declared.heads.Listed.{Listed}
use Rattle.gts_checkpoint.specs.declared.heads.Listed.TheVariants as listed

-- the first bytes of a checkpoint, up to its bulletins
abbrev pub head_text : ℕ → ℕ → ℕ → List ℕ
head_text circuits accepted bulletins = codes "C" ++ 0 ∷ 0 ∷ 0 ∷ bytes_of 4 circuits ++ bytes_of 8 accepted ++ bytes_of 4 bulletins

-- what stands in front of a body
abbrev pub bulletin_head : ℕ → ℕ → Kind → ℕ → List ℕ
bulletin_head position from kind size = bytes_of 8 position ++ from ∷ take 1 (letters kind) ++ 0 ∷ 0 ∷ bytes_of 4 size

-- what stands in front of a circuit's positions
abbrev pub circuit_head : ℕ → ℕ → ℕ → List ℕ
circuit_head draws waiting kept = bytes_of 8 draws ++ bytes_of 4 waiting ++ bytes_of 4 kept

-- ---- bytes that may end within a head

-- as many bytes as a text has, as far as they are there; behind them those of the text
abbrev pub or_else : List ℕ → List ℕ → List ℕ
or_else text bytes = let found : List ℕ = take (length text) bytes in found ++ drop (length found) text

-- the first bytes of a checkpoint, or the head of a bulletin or of a circuit, that begin with these and go on as the least ones do
abbrev pub front_by : List ℕ → List ℕ
front_by bytes = or_else (head_text 0 0 0) bytes

abbrev pub bulletin_by : List ℕ → List ℕ
bulletin_by bytes = or_else (bulletin_head 0 0 An 0) bytes

abbrev pub circuit_by : List ℕ → List ℕ
circuit_by bytes = or_else (circuit_head 0 0 0) bytes

-- these bytes are not the first of a checkpoint
abbrev pub IsNoFront : List ℕ → Type 0
IsNoFront bytes = (circuits accepted bulletins : ℕ) → bytes ≡ head_text circuits accepted bulletins → ⊥

-- these bytes are the head of no bulletin with a body that isn't too long
abbrev pub IsNoHead : List ℕ → Type 0
IsNoHead bytes = (position from : ℕ) (kind : Kind) (size : ℕ) → size ≤ LONGEST_BODY → bytes ≡ bulletin_head position from kind size → ⊥

-- what is known of something by its text, if that stands at the front
abbrev pub if_there : {A B : Type 0} → (A → List ℕ) → (A → B) → List ℕ → A → Option B
if_there text known bytes x = if starts_with nat_eq bytes (text x) then Some (known x) else None

-- the first bytes of this need's checkpoint
abbrev pub front_of : Need → List ℕ
front_of n = head_text (length n.circuits) n.accepted (length n.bulletins)

-- as many bytes as the longest body has
unfoldable pub zeros : List ℕ
zeros = replicate LONGEST_BODY 0

-- How many circuits and bulletins a checkpoint has by its first bytes; none where it can't begin so.
unfoldable pub front_counts : List ℕ → Option (ℕ × ℕ)
front_counts bytes = if_there front_of (λ n. (length n.circuits, length n.bulletins)) (front_by bytes) (need_in (front_by bytes))

-- How many bytes a bulletin or a circuit has by its first ones; none where it can't begin so.
unfoldable pub listed_size : Listed → List ℕ → Option ℕ
listed_size listed.Bulletin bytes =
    let whole : List ℕ = bulletin_by bytes ++ zeros in if_there bulletin_text (λ b. length (bulletin_text b)) whole (bulletin_in whole)
listed_size listed.Circuit bytes = Some (length (circuit_text (circuit_in (circuit_by bytes))))
