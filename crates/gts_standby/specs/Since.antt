-- What of a feed is sent to a standby station that has a first part of it (profile).
use Rattle.std.specs.Prelude.{◌≡◌, ℕ, zero, suc, ◌+◌, ◌-◌, ◌≤◌, Bool, true, false, ◌==◌, ◌&&◌, nat_le, nat_eq, if◌then◌else◌, ◌⊎◌, List, [], ◌∷◌, ◌++◌, length, take, drop, Option, Some, None, Result, Ok, Err}
use Rattle.gts_standby.specs.Cited.Below.{Call, Directory, InHand, Need, Record, State, Version, checkpoint_text, compacted_bytes, file_of, first_seal, held, is_checkpoint, need_in, open_gate, pointwise, record_size, record_text, records_at, seal, sealed_at, seen, selected_bytes, written}
use Rattle.gts_standby.specs.declared.since.Since.{Since}
use Rattle.gts_standby.specs.declared.fault.ShipFault.{ShipFault}
use Rattle.gts_standby.specs.Feed.{feed, feed_at}
use Rattle.gts_standby.specs.Shipping.{IsAtGate, IsQuiet, feed_of}

-- the record behind an open gate, where this seal stands before it
abbrev pub record_at : Version → List ℕ → List ℕ → Option Record
record_at v before [] = None
record_at v before (mark ∷ bytes) = elim (mark == open_gate) [ false ↦ None | true ↦ sealed_at v before bytes ]

-- these bytes, where it is so
abbrev pub where_so : Bool → List ℕ → Option (List ℕ)
where_so false left = None
where_so true left = Some left

-- What of a feed is behind a place in the journal, from this gate on: none where no gate is there with this last seal before it.
-- `n` is at least the number of bytes left.
abbrev pub behind_at : Version → ℕ → List ℕ → ℕ → List ℕ → ℕ → List ℕ → Option (List ℕ)
behind_at v zero before gate bytes place last = None
behind_at v (suc n) before gate bytes place last =
    if nat_le place gate then where_so (gate == place && pointwise nat_eq before last) (feed_at v (suc n) before bytes)
    else elim (record_at v before bytes) [
      | None ↦ None
      | Some r ↦ behind_at v n (seal v before (record_text r)) (gate + record_size v r) (drop (record_size v r) bytes) place last
    ]

-- the same from the gate behind the checkpoint of this need on
abbrev pub behind_checkpoint : Version → List ℕ → List ℕ → ℕ → List ℕ → Need → Option (List ℕ)
behind_checkpoint v before bytes place last n =
    behind_at v (length bytes) (seal v before (checkpoint_text n)) (compacted_bytes v n - 1)
    (drop (compacted_bytes v n - 1) bytes) place last

-- the same of a whole file, by whether it begins with a checkpoint
abbrev pub behind_place : Version → List ℕ → List ℕ → ℕ → List ℕ → Bool → Option (List ℕ)
behind_place v before bytes place last false = behind_at v (length bytes) before 40 (drop 40 bytes) place last
behind_place v before bytes place last true = behind_checkpoint v before bytes place last (need_in (drop 41 bytes))

-- what was found, or else the whole
abbrev pub or_whole : List ℕ → Option (List ℕ) → List ℕ
or_whole whole None = whole
or_whole whole (Some left) = left

-- what is behind so many bytes of a file, of which the last one is a closed gate with this seal before it
abbrev pub found_since : Version → List ℕ → List ℕ → ℕ → List ℕ → Option (List ℕ)
found_since v mark bytes used last = behind_place v (first_seal v mark) bytes (used - 1) (held v last) (is_checkpoint bytes)

-- What is sent to a standby that has so many bytes of a journal, of which the last one is a closed gate with this seal before it: what
-- is behind that gate in the file; the whole feed, where no gate is there with that seal.
abbrev pub feed_since : Version → List ℕ → List ℕ → ℕ → List ℕ → List ℕ
feed_since v mark bytes used last = or_whole (feed v mark bytes) (found_since v mark bytes used last)

-- a text ends with these bytes
abbrev pub EndsWith : List ℕ → List ℕ → Type 0
EndsWith text last = (records : List ℕ) × (text ≡ records ++ last)

-- The whole is a front, and what is left. The front ends with the last seal; where it has no record, that is the seal before it.
pub record IsBehindFront (whole before last left : List ℕ) : Type 0 where
  pub front : List ℕ
  pub is : whole ≡ front ++ left
  pub ends : ((front ≡ []) × (before ≡ last)) ⊎ EndsWith front last

-- the same of the feed of a file, behind its header
abbrev pub HasFront : Version → List ℕ → List ℕ → List ℕ → List ℕ → Type 0
HasFront v mark bytes last left =
    (behind : List ℕ) × (feed v mark bytes ≡ take 40 bytes ++ behind) × IsBehindFront behind (first_seal v mark) last left

-- what is to be said of the files to a standby that has this
abbrev pub since_of : Directory → List Call → Since → List ℕ
since_of d calls since = feed_since written d.mark (selected_bytes (seen calls)) since.used since.seal

-- what is to be said of them: all, or what is behind this
abbrev pub asked_of : Directory → List Call → Option Since → List ℕ
asked_of d calls None = feed_of d calls
asked_of d calls (Some since) = since_of d calls since

-- From a gate of these bytes on, where this seal stands before it, the records come to a closed gate at this place; and this is what
-- is behind a place.
pub record Comes (v : Version) (d : Directory) (file : ℕ) (before : List ℕ) (gate : ℕ) (bytes : List ℕ)
    (end place : ℕ) (last : List ℕ) (found : Option (List ℕ)) : Type 0 where
  pub steps : ℕ
  pub enough : length bytes ≤ steps + gate
  pub state : State
  pub came_to : State
  pub at_end : List ℕ
  pub opens : records_at v d steps file before state gate (drop gate bytes) ≡ Ok (came_to, end + 1, at_end)
  pub found_is : found ≡ behind_at v steps before gate (drop gate bytes) place last

-- so it is for a journal that stands at a gate
abbrev pub IsBefore : Directory → List Call → InHand → (end place : ℕ) → List ℕ → Option (List ℕ) → Type 0
IsBefore d calls j end place last found = Comes j.version d j.file j.seal j.gate (file_of calls j) end place last found

-- the journal was to go on: it stands at a further gate, or a device failed
abbrev pub Passes : {T : Type 0} → Result T ShipFault → Directory → List Call → InHand → (end place : ℕ) → List ℕ → Option (List ℕ) → Type 0
Passes (Ok _) d calls j end place last found = IsBefore d calls j end place last found
Passes (Err e) d calls j end place last found = IsQuiet e

-- So it is of each journal that stands in front of these places, whatever is behind the last one.
abbrev pub PassesUnder : {T : Type 0} → Result T ShipFault → (observed : Type 0) → (InHand → (end place : ℕ) → Type 0)
    → List Call → InHand → List Call → InHand → Type 0
PassesUnder result observed Low old j new next =
    observed → (d : Directory) (end place : ℕ) (last : List ℕ) (found : Option (List ℕ))
    → IsBefore d old j end place last found → Low j end place → Passes result d new next end place last found

-- a place is behind neither
abbrev pub IsWithin : ℕ → InHand → (end place : ℕ) → Type 0
IsWithin stop j end place = (stop ≤ end) × (stop ≤ place)

-- what is behind a place of the journal's file
abbrev pub behind_here : Directory → List Call → InHand → ℕ → List ℕ → Option (List ℕ)
behind_here d calls j place last =
    behind_place j.version (first_seal j.version d.mark) (file_of calls j) place last (is_checkpoint (file_of calls j))

-- A journal stands where what was found is left of the feed; or nothing was found.
abbrev pub Finds : Bool → Directory → List Call → InHand → ℕ → Option (List ℕ) → Type 0
Finds true d calls j end found = (left : List ℕ) × IsAtGate d calls j end left × (found ≡ Some left)
Finds false d calls j end found = found ≡ None

-- so it was found out, or a device failed
abbrev pub LooksFor : Result Bool ShipFault → Directory → List Call → InHand → ℕ → Option (List ℕ) → Type 0
LooksFor (Ok is) d calls j end found = Finds is d calls j end found
LooksFor (Err e) d calls j end found = IsQuiet e
