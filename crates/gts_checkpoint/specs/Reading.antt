-- What is read of a checkpoint.
use Rattle.std.specs.Prelude.{◌≡◌, ◌<◌, ◌≤◌, ◌+◌, ◌*◌, ◌^◌, ℕ, Bool, true, false, List, [], ◌++◌, length, take, drop, flat_map, Option, Some, None, IsTrue}
use Rattle.gts_checkpoint.specs.Cited.Below.{AllByRecursion, Bulletin, Call, CircuitNeed, Damaged, Directory, DiskFault, FitsCircuit, FitsNeed, LONGEST_BODY, Need, NoMemory, OpenFault, Version, admits_checkpoint, begun, bulletin_of, bulletin_text, bytes_of, checkpoint_text, circuit_need_of, circuit_text, compacted_bytes, draw_size, due, first_seal, is_sealed, is_sound, need_in, need_of, seal, seen, unowed}
use Rattle.gts_event.specs.declared.values.Bulletin as values
use Rattle.gts_event.specs.declared.values.CircuitNeed as value_circuit
use Rattle.gts_event.specs.declared.values.Need as value_need

-- the bytes of a file from a place on
abbrev pub bytes_from : List Call → ℕ → ℕ → List ℕ
bytes_from calls file at = drop at (seen calls file)

-- this text stands at the front
abbrev pub BeginsWith : List ℕ → List ℕ → Type 0
BeginsWith bytes text = (rest : List ℕ) × (bytes ≡ text ++ rest)

-- as many bytes as this, at the front, have their seal behind them, where this seal stands before them
abbrev pub is_sealed_front : Version → List ℕ → List ℕ → ℕ → Bool
is_sealed_front v before bytes size = is_sealed v before (take size bytes) bytes

-- ---- the pieces

-- so many bytes stand there, or fewer
abbrev pub FindsBytes : List ℕ → ℕ → Option (List ℕ) → Type 0
FindsBytes bytes size (Some found) = BeginsWith bytes found × (length found ≡ size)
FindsBytes bytes size None = length bytes < size

-- so many numbers stand there, or fewer
abbrev pub FindsNumbers : List ℕ → ℕ → Option (List ℕ) → Type 0
FindsNumbers bytes count (Some found) = BeginsWith bytes (flat_map (bytes_of 8) found) × (length found ≡ count)
FindsNumbers bytes count None = length bytes < 8 * count

-- a bulletin stands there, or none whose body isn't too long
abbrev pub FindsBulletin : List ℕ → Option values.Bulletin → Type 0
FindsBulletin bytes (Some b) = BeginsWith bytes (bulletin_text (bulletin_of b))
FindsBulletin bytes None = (b : Bulletin) → length b.body ≤ LONGEST_BODY → BeginsWith bytes (bulletin_text b) → ⊥

-- what is needed of a circuit stands there, or nothing that fits its bytes
abbrev pub FindsCircuit : List ℕ → Option value_circuit.CircuitNeed → Type 0
FindsCircuit bytes (Some c) = BeginsWith bytes (circuit_text (circuit_need_of c))
FindsCircuit bytes None = (c : CircuitNeed) → FitsCircuit c → BeginsWith bytes (circuit_text c) → ⊥

-- bodies that aren't too long, behind positions that fit their bytes
abbrev pub FitBodies : List Bulletin → Type 0
FitBodies bs = AllByRecursion (λ b. (b.position < 256 ^ 8) × (length b.body ≤ LONGEST_BODY)) bs

-- so many bulletins stand there, or none so many with bodies that aren't too long
abbrev pub FindsBulletins : List ℕ → ℕ → Option (List values.Bulletin) → Type 0
FindsBulletins bytes count (Some found) = BeginsWith bytes (flat_map (λ b. bulletin_text (bulletin_of b)) found) × (length found ≡ count)
FindsBulletins bytes count None = (bs : List Bulletin) → length bs ≡ count → FitBodies bs → BeginsWith bytes (flat_map bulletin_text bs) → ⊥

-- so many circuits stand there, or none so many that fit their bytes
abbrev pub FindsCircuits : List ℕ → ℕ → Option (List value_circuit.CircuitNeed) → Type 0
FindsCircuits bytes count (Some found) = BeginsWith bytes (flat_map (λ c. circuit_text (circuit_need_of c)) found) × (length found ≡ count)
FindsCircuits bytes count None =
    (cs : List CircuitNeed) → length cs ≡ count → AllByRecursion FitsCircuit cs → BeginsWith bytes (flat_map circuit_text cs) → ⊥

-- A checkpoint stands there, whatever its numbers mean; or none for so many circuits with bodies that aren't too long.
abbrev pub FindsText : List ℕ → ℕ → Option value_need.Need → Type 0
FindsText bytes count (Some n) = BeginsWith bytes (checkpoint_text (need_of n))
FindsText bytes count None =
    (m : Need) → FitsNeed m → length m.circuits ≡ count → FitBodies m.bulletins → BeginsWith bytes (checkpoint_text m) → ⊥

-- what was found, without its place
abbrev pub first_of : {A B : Type 0} → Option (A × B) → Option A
first_of None = None
first_of (Some x) = Some x.0

-- the numbers of what was read fit their bytes, and nothing is owed
abbrev pub FitsValue : values.Bulletin → Type 0
FitsValue b = (b.position < 2 ^ 64) × (length b.body ≤ LONGEST_BODY)

-- each place fits its bytes
abbrev pub ArePlaces : List ℕ → Type 0
ArePlaces ps = AllByRecursion (λ p. p < 256 ^ 8) ps

abbrev pub FitsValueCircuit : value_circuit.CircuitNeed → Type 0
FitsValueCircuit c =
    (c.draws < 2 ^ 64) × (length c.waiting < 2 ^ 32) × (length c.kept < 2 ^ 32) × ArePlaces c.waiting × ArePlaces c.kept × (c.owed ≡ [])

-- why bytes can't be read, whatever they are
abbrev pub IsReadFault : OpenFault → Type 0
IsReadFault DiskFault = Unit {0}
IsReadFault NoMemory = Unit {0}
IsReadFault _ = ⊥

-- what waits on a circuit
abbrev pub waiting_of : value_circuit.CircuitNeed → List ℕ
waiting_of c = c.waiting

-- ---- the whole

-- a need was read from behind the header with its seal, and may stand there
pub record HasRead (v : Version) (d : Directory) (bytes : List ℕ) (n : Need) (last : List ℕ) : Type 0 where
  pub need : need_in bytes ≡ n
  pub admitted : admits_checkpoint v d bytes n ≡ true
  pub seal_is : last ≡ seal v (first_seal v d.mark) (checkpoint_text n)

-- Whatever the file has, a need that was read is one with which a core may begin; it has nothing owed, and a journal whose gate
-- stands at this place, behind its checkpoint, has room for all draws that are due.
pub record CanBegin (v : Version) (d : Directory) (n : Need) (gate : ℕ) : Type 0 where
  pub sound : IsTrue (is_sound d n)
  pub unowed : unowed n ≡ n
  pub place : gate + 1 ≡ compacted_bytes v n
  pub room : gate + 1 + draw_size v * due (begun n) ≤ d.limit

-- damage is answered exactly where it is there; faults of the disk and want of memory aren't of the bytes
abbrev pub IsDamage : Version → Directory → ℕ → List ℕ → OpenFault → Type 0
IsDamage v d file bytes DiskFault = Unit {0}
IsDamage v d file bytes NoMemory = Unit {0}
IsDamage v d file bytes fault = (fault ≡ Damaged file 41) × (admits_checkpoint v d bytes (need_in bytes) ≡ false)
