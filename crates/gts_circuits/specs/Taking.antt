-- Several takes on one circuit, one behind another in one turn.
use Rattle.std.specs.Prelude.{◌≡◌, ◌⊎◌, ℕ, ◌+◌, ◌≤◌, Bool, true, false, List, [], ◌∷◌, ◌++◌, length, replicate, Result, Ok, Err}
use Rattle.gts_circuits.specs.Cited.Below.{DiskFault, Doubt, Draw, Engine, Entry, Event, Frame, GaveAll, GaveNoMore, Idle, Nothing, Outcome, Resend, StationMeanings, Stopped, SwitchFault, Taken, after_takes, joined, most_beside, outcome, state_at, takes}
use Rattle.gts_circuits.specs.Housed.{Beginning, StandsWith, Stands}

-- the frame that a take with this outcome left in a buffer: none where it gave nothing
abbrev pub frames_by : Outcome → List ℕ → List Frame
frames_by (Resend index) out = record { index = index; text = out } ∷ []
frames_by (Draw index) out = record { index = index; text = out } ∷ []
frames_by _ out = []

-- a take with this outcome gave something
abbrev pub gives : Outcome → Bool
gives (Resend index) = true
gives (Draw index) = true
gives _ = false

-- how many takes there were that gave these frames, where the last one gave something or nothing
abbrev pub count_of : List Frame → Bool → ℕ
count_of frames true = length frames
count_of frames false = length frames + 1

-- so many takes on c are all that is gathered behind these entries; or nothing is, and they were done at once
abbrev pub AreTaken : List Entry → ℕ → ℕ → List Entry → List Event → Type 0
AreTaken h c count front events = ((front ≡ h) × (events ≡ replicate count (Taken c))) ⊎ ((front ≡ h ++ takes c count) × (events ≡ []))

-- Behind these entries takes on c were made, one after another, that gave these frames, and the last one something or nothing. Nothing is
-- to be said of them.
pub record HasTaken {P : Type 0} (station : StationMeanings P) (b : Beginning) (h : List Entry) (c : ℕ)
    (frames : List Frame) (gave : Bool) (e : Engine P) : Type 0 where
  pub front : List Entry
  pub events : List Event
  pub taken : AreTaken h c (count_of frames gave) front events
  pub some : 1 ≤ count_of frames gave
  pub stands : StandsWith station b front events e
  pub all : GaveAll b.origin.directory (state_at b.origin h) c frames
  pub last : gave ≡ false
      → outcome b.origin.directory (after_takes b.origin.directory (state_at b.origin h) c (length frames)) (Taken c) ≡ Nothing
  pub silent : joined e.held ≡ []

-- The entries that takes on c in one turn add behind these, by their answer: whether there may be more.
abbrev pub AddsTaken : Beginning → List Entry → ℕ → List Frame → Result Bool SwitchFault → List Entry → Type 0
AddsTaken b h c frames (Ok true) more =
    (more ≡ takes c (length frames)) × GaveAll b.origin.directory (state_at b.origin h) c frames × (1 ≤ length frames)
    × (length frames ≤ most_beside b.origin.directory c + 1)
AddsTaken b h c frames (Ok false) more =
    (more ≡ takes c (length frames + 1)) × GaveNoMore b.origin.directory (state_at b.origin h) c frames
    × (length frames ≤ most_beside b.origin.directory c)
AddsTaken b h c frames (Err DiskFault) more =
    (beside : ℕ) × (beside ≤ most_beside b.origin.directory c) × (frames ≡ []) × (more ≡ Doubt (Taken c ∷ replicate beside (Taken c)) ∷ [])
AddsTaken b h c frames (Err (Stopped by)) more = (frames ≡ []) × (more ≡ Idle (Taken c) (Stopped by) ∷ [])
AddsTaken b h c frames (Err fault) more = ⊥

-- and the engine stands for them
pub record LeavesTaken {P : Type 0} (station : StationMeanings P) (b : Beginning) (h : List Entry) (c : ℕ)
    (frames : List Frame) (result : Result Bool SwitchFault) (e : Engine P) (more : List Entry) : Type 0 where
  pub added : AddsTaken b h c frames result more
  pub stands : Stands station b (h ++ more) e

-- Both, whatever the entries are for which the engine stood: takes of a turn, and takes behind others.
abbrev pub TurnsTaken : {P : Type 0} → StationMeanings P → Beginning → ℕ → List Frame → Result Bool SwitchFault → (old new : Engine P)
    → Type 0
TurnsTaken station b c frames result old new =
    (h : List Entry) → Stands station b h old → (more : List Entry) × LeavesTaken station b h c frames result new more

abbrev pub GoesOnTaking : {P : Type 0} → StationMeanings P → Beginning → ℕ → List Frame → Bool → Engine P → List Frame → Bool → Engine P
    → Type 0
GoesOnTaking station b c frames gave old frames_now gave_now new =
    (h : List Entry) → HasTaken station b h c frames gave old → HasTaken station b h c frames_now gave_now new
