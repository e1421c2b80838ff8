-- What is said of a feed.
use Rattle.std.specs.Prelude.{◌≡◌, ◌⊎◌, ℕ, ◌+◌, ◌≤◌, List, ◌∷◌, ◌++◌, length, drop, Result, Ok, Err, None}
use Rattle.gts_standby.specs.Cited.Below.{Call, Did, Directory, InHand, Need, OnlySyncs, OpenFault, SaysFront, SaysOnly, StandsOn, State, Syncs, Version, file_of, file_opens, files_read, first_seal, header_fault, is_at_checkpoint, is_checkpoint, on, opens, records_at, seen, selected_bytes, written}
use Rattle.gts_record.specs.declared.fault.OpenFault.TheVariants as opening
use Rattle.gts_standby.specs.declared.fault.ShipFault.{ShipFault}
use Rattle.gts_standby.specs.declared.fault.ShipFault.TheVariants.{Open, DiskFault, NoMemory}
use Rattle.gts_standby.specs.Feed.{feed, feed_at, feed_behind}

-- a fault of the journal's opening, as a feed is answered with it
abbrev pub ship_fault : OpenFault → ShipFault
ship_fault opening.DiskFault = DiskFault
ship_fault opening.NoMemory = NoMemory
ship_fault fault = Open fault

-- these bytes were said on channel 0, and nothing else was done: a journal stands where it stood
pub record SaysHere (old new : List Call) (bytes : List ℕ) : Type 0 where
  pub only : SaysOnly old new (on 0 bytes)
  pub stands : (j : InHand) → StandsOn old j → StandsOn new j

-- these bytes were to be said: they were, or a front of them was
abbrev pub Speaks : {T E : Type 0} → Result T E → List Call → List Call → List ℕ → Type 0
Speaks (Ok _) old new bytes = SaysHere old new bytes
Speaks (Err _) old new bytes = SaysFront old new (on 0 bytes)

-- a fault of a device, and want of memory, have names of their own
abbrev pub IsNamed : ShipFault → Type 0
IsNamed (Open opening.DiskFault) = ⊥
IsNamed (Open opening.NoMemory) = ⊥
IsNamed _ = Unit {0}

-- a fault that isn't of the journal's bytes
abbrev pub IsQuiet : ShipFault → Type 0
IsQuiet (Open fault) = ⊥
IsQuiet _ = Unit {0}

-- From a gate of these bytes on, where this seal stands before it, the records come to a closed gate at this place; and this is what
-- is left of the feed. As many steps are left as there are bytes, or more.
pub record Reaches (v : Version) (d : Directory) (file : ℕ) (before : List ℕ) (gate : ℕ) (bytes : List ℕ)
    (end : ℕ) (left : List ℕ) : Type 0 where
  pub steps : ℕ
  pub enough : length bytes ≤ steps + gate
  pub state : State
  pub then : State
  pub last : List ℕ
  pub opens : records_at v d steps file before state gate (drop gate bytes) ≡ Ok (then, end + 1, last)
  pub left_is : left ≡ feed_at v steps before (drop gate bytes)

-- so it is for a journal that stands at a gate
abbrev pub IsAtGate : Directory → List Call → InHand → ℕ → List ℕ → Type 0
IsAtGate d calls j end left = Reaches j.version d j.file j.seal j.gate (file_of calls j) end left

-- The next piece of the feed was to be said: it was, and the journal stands behind it; or a front of what was left was said.
pub record GoesOnBehind (d : Directory) (old new : List Call) (j : InHand) (end : ℕ) (left : List ℕ) : Type 0 where
  pub piece : List ℕ
  pub rest : List ℕ
  pub is : left ≡ piece ++ rest
  pub says : SaysHere old new piece
  pub at : IsAtGate d new j end rest

abbrev pub SaysOne : {T : Type 0} → Result T ShipFault → Directory → List Call → List Call → InHand → ℕ → List ℕ → Type 0
SaysOne (Ok _) d old new j end left = GoesOnBehind d old new j end left
SaysOne (Err e) d old new j end left = IsQuiet e × SaysFront old new (on 0 left)

-- all of it was said, or a front of it
abbrev pub SaysRest : {T : Type 0} → Result T ShipFault → List Call → List Call → List ℕ → Type 0
SaysRest (Ok _) old new left = SaysHere old new left
SaysRest (Err e) old new left = IsQuiet e × SaysFront old new (on 0 left)

-- A journal stands at its first gate, behind a sound header. Its file opens, with a closed gate at this place.
pub record IsAtFirst (d : Directory) (calls : List Call) (j : InHand) (end : ℕ) : Type 0 where
  pub gate : j.gate ≡ 40
  pub seal_is : j.seal ≡ first_seal j.version d.mark
  pub header : header_fault j.version d.mark j.file (file_of calls j) ≡ None
  pub letter : is_checkpoint (file_of calls j) ≡ is_at_checkpoint j
  pub then : State
  pub last : List ℕ
  pub opens : file_opens j.version d j.file (file_of calls j) ≡ Ok (then, end + 1, last)

-- The files opened, and were synced twice. A journal stands at its first gate, and its records come to a closed gate at this place.
pub record HasOpened (d : Directory) (old new : List Call) (j : InHand) (end : ℕ) : Type 0 where
  pub state : State
  pub last : List ℕ
  pub reads : files_read written d (seen old) ≡ Ok (state, end + 1, last)
  pub synced : new ≡ Did Syncs ∷ Did Syncs ∷ old
  pub version : j.version ≡ written
  pub stands : StandsOn new j
  pub first : IsAtFirst d new j end

-- what of the journal's file is sent behind its header
abbrev pub behind_header : Directory → List Call → InHand → List ℕ
behind_header d calls j = feed_behind j.version (first_seal j.version d.mark) (file_of calls j) (is_checkpoint (file_of calls j))

-- what is to be said of the files
abbrev pub feed_of : Directory → List Call → List ℕ
feed_of d calls = feed written d.mark (selected_bytes (seen calls))

-- The journal opens. The files were synced, and then these bytes were said on channel 0, and nothing else.
pub record ShipsOnly (d : Directory) (old new : List Call) (bytes : List ℕ) : Type 0 where
  pub need : Need
  pub opened : opens d (seen old) ≡ Ok need
  pub said : SaysOnly (Did Syncs ∷ old) new (on 0 bytes)

-- At most a sync was tried; or the files were synced, and then a front of these bytes was said.
abbrev pub SaysFrontSynced : List Call → List Call → List ℕ → Type 0
SaysFrontSynced old new bytes = OnlySyncs old new ⊎ SaysFront (Did Syncs ∷ old) new (on 0 bytes)

-- A fault of the files is answered where they open to it, and at most a sync was tried. Else no more than a front of these bytes was
-- said, behind a sync.
abbrev pub IsShipFault : ShipFault → Directory → List Call → List Call → List ℕ → Type 0
IsShipFault (Open fault) d old new bytes = (opens d (seen old) ≡ Err fault) × OnlySyncs old new
IsShipFault _ d old new bytes = SaysFrontSynced old new bytes

-- where the files don't open, at most a sync was tried
abbrev pub OnlySyncsUnopened : Directory → List Call → List Call → Type 0
OnlySyncsUnopened d old new = (fault : OpenFault) → opens d (seen old) ≡ Err fault → OnlySyncs old new
