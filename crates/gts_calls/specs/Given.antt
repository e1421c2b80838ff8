-- The frames that the takes of one turn gave, and what such a turn adds.
use Rattle.std.specs.Prelude.{◌≡◌, ℕ, zero, suc, ◌+◌, ◌-◌, ◌<◌, ◌≤◌, Bool, true, false, List, [], ◌∷◌, length, take, drop, map, replicate, slice_index_or, sum_by, Option, Some, None, Result, Ok, Err}
use Rattle.gts_calls.specs.Cited.Below.{Directory, DiskFault, Done, Doubt, Draw, Entry, Idle, LONGEST_FRAME, NoMemory, Nothing, Outcome, Resend, SayFault, Spent, State, SwitchFault, Taken, after, frame_of_draw, outcome}
use Rattle.gts_calls.specs.declared.given.Placed.{Placed}
use Rattle.gts_calls.specs.declared.given.TheConstants.{MOST_BYTES, MOST_FRAMES}
use Rattle.gts_calls.specs.Desks.{Seen, AddsAll, AddsEntries, IsSpent}

-- ---- frames in one buffer

-- a frame that a take gave: the index of its draw on its circuit, and its bytes
pub record Frame : Type 0 where
  pub index : ℕ
  pub text : List ℕ

-- the index and the size of each frame, in order, and the bytes of all of them
pub record Laid : Type 0 where
  pub each : List Placed
  pub bytes : List ℕ

-- no frame at all
abbrev pub no_frame : Frame
no_frame = record { index = 0; text = [] }

-- these frames
abbrev pub frames_in : List Placed → List ℕ → List Frame
frames_in [] bytes = []
frames_in (p ∷ each) bytes = record { index = p.index; text = take p.size bytes } ∷ frames_in each (drop p.size bytes)

abbrev pub frames_of : Laid → List Frame
frames_of laid = frames_in laid.each laid.bytes

-- how many bytes they have
abbrev pub sizes_of : List Placed → ℕ
sizes_of each = sum_by (λ p. p.size) each

-- there is room for one more, however long it is
abbrev pub HasRoom : Laid → Type 0
HasRoom laid = (length laid.each < MOST_FRAMES) × (length laid.bytes + LONGEST_FRAME ≤ MOST_BYTES)

-- no frame
abbrev pub no_frames : Laid
no_frames = record { each = []; bytes = [] }

-- ---- takes in a turn

-- so many takes on c were done
abbrev pub takes : ℕ → ℕ → List Entry
takes c count = replicate count (Done (Taken c))

-- the index of the frame that a take left, where it gave something
abbrev pub given_index : Outcome → Option ℕ
given_index (Resend index) = Some index
given_index (Draw index) = Some index
given_index _ = None

-- a take on c at this state gave this frame
pub record Gave (d : Directory) (s : State) (c : ℕ) (frame : Frame) : Type 0 where
  pub index : given_index (outcome d s (Taken c)) ≡ Some frame.index
  pub text : frame.text ≡ frame_of_draw d (after d s (Taken c)) c frame.index

-- takes on c, one after another from this state on, gave these frames
abbrev pub GaveAll : Directory → State → ℕ → List Frame → Type 0
GaveAll d s c [] = Unit {0}
GaveAll d s c (frame ∷ frames) = Gave d s c frame × GaveAll d (after d s (Taken c)) c frames

-- the state after so many takes on c
abbrev pub after_takes : Directory → State → ℕ → ℕ → State
after_takes d s c zero = s
after_takes d s c (suc count) = after_takes d (after d s (Taken c)) c count

-- takes on c gave these frames, and the one behind them gave nothing
pub record GaveNoMore (d : Directory) (s : State) (c : ℕ) (frames : List Frame) : Type 0 where
  pub gave : GaveAll d s c frames
  pub nothing : outcome d (after_takes d s c (length frames)) (Taken c) ≡ Nothing

-- how many takes come with another one in a turn at most: with it, as many as draws of the circuit an opening owes again
abbrev pub most_beside : Directory → ℕ → ℕ
most_beside d c = slice_index_or (map (λ row. row.repeat) d.circuits) c 0 - 1

-- The disk failed in a turn for takes on c: all of them are in doubt together.
pub record TakesInDoubt (c : ℕ) (old new : Seen) : Type 0 where
  pub beside : ℕ
  pub few : beside ≤ most_beside old.directory c
  pub added : AddsEntries old (Doubt (Taken c ∷ replicate beside (Taken c)) ∷ []) new

-- What a turn adds for takes on c, one after another, that gave these frames, by its answer: whether there may be more. Where it is a
-- fault, nothing was given. Saying never fails, and memory is never wanted.
abbrev pub TakesSome : ℕ → List Frame → Result Bool SwitchFault → (old new : Seen) → Type 0
TakesSome c frames (Ok true) old new =
    AddsAll old (takes c (length frames)) (λ s. GaveAll old.directory s c frames) new
    × (1 ≤ length frames) × (length frames ≤ most_beside old.directory c + 1)
TakesSome c frames (Ok false) old new =
    AddsAll old (takes c (length frames + 1)) (λ s. GaveNoMore old.directory s c frames) new × (length frames ≤ most_beside old.directory c)
TakesSome c frames (Err DiskFault) old new = (frames ≡ []) × TakesInDoubt c old new
TakesSome c frames (Err SayFault) old new = ⊥
TakesSome c frames (Err NoMemory) old new = ⊥
TakesSome c frames (Err Spent) old new = (frames ≡ []) × IsSpent old new
TakesSome c frames (Err fault) old new = (frames ≡ []) × AddsEntries old (Idle (Taken c) fault ∷ []) new
