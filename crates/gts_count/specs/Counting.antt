-- The running numbers beside the history for which a switch stands.
use Rattle.std.specs.Prelude.{◌≡◌, ◌⊎◌, ℕ, ◌+◌, ◌<◌, ◌≤◌, slice_get, Bool, true, false, List, slice_set, length, map, take, drop, Option, Some, None, Result, Ok, Err, IsTrue}
use Rattle.gts_count.specs.Cited.Below.{Accepted, All, Directory, DiskFault, Draw, Entry, Event, HasDoubt, HasUnsaid, Heard, IsHeld, IsOrdered, Kind, Need, Outcome, SameNeed, SayFault, State, SwitchFault, after, keeps_one, need, outcome}
use Rattle.gts_count.specs.declared.recent.Recent.{Recent}
use Rattle.gts_count.specs.declared.recent.Arrival.{Arrival}
use Rattle.gts_count.specs.declared.numbers.Numbers.{Numbers}
use Rattle.gts_count.specs.declared.counting.Counting.{Counting}
use Rattle.gts_count.specs.Tally.{tally, key_of}
use Rattle.gts_count.specs.Rows.{has_row}
use Rattle.gts_count.specs.Numbers.{IsSound, joined, tally_of, ring_at, kept_with}
use Rattle.gts_count.specs.Going.{heard_of, arrived}

-- The running numbers are those of the need of a state, counted from scratch. So that no later step wants memory for them but
-- that of an accepted bulletin with a new key: a state of the same need is known in which each bulletin has its row.
pub record Follows (d : Directory) (s : State) (n : Numbers) : Type 0 where
  pub sound : IsSound n
  pub numbers : tally_of n ≡ tally d (need d s)
  pub window : n.recent.capacity ≡ d.window
  pub kept : map (λ q. q.capacity) n.drawn.items ≡ map (λ row. row.kept) d.circuits
  pub keeps : IsTrue (keeps_one d)
  pub state : State
  pub same : SameNeed d s state
  pub held : IsHeld d state
  pub rows : All (λ b. IsTrue (has_row n.rows (key_of b.body))) state.accepted

-- what is known of the directory
pub record Knows (d : Directory) (c : Counting) : Type 0 where
  pub centre : c.centre ≡ d.centre
  pub digits : c.digits.items ≡ map (λ row. row.digits) d.circuits

-- by whether they are current
abbrev pub CountsIf : Bool → Directory → State → List Entry → Counting → Type 0
CountsIf true d s h c = Knows d c × Follows d s c.numbers
CountsIf false d s h c = HasUnsaid h ⊎ HasDoubt h

-- While they are current, the running numbers are those of the need of the state; and they are until a device failed at one of
-- the entries: saying, where the outcome wasn't told; or the disk, where what was counted already is in doubt.
abbrev pub Counts : Directory → State → List Entry → Counting → Type 0
Counts d s h c = CountsIf c.current d s h c

-- a message can be noted: its key has a row, and it came in on a circuit that is there
abbrev pub CanNote : Counting → Option Arrival → Type 0
CanNote c None = Unit {0}
CanNote c (Some arrival) = IsTrue (has_row c.numbers.rows arrival.key) × (arrival.from < length c.numbers.came.items)

-- what is noted of a message, where it will be accepted
abbrev pub IsReady : ℕ → List ℕ → Option Arrival → Directory → State → Type 0
IsReady circuit message ready d s =
    (kind : Kind) (position circuits : ℕ) → outcome d s (Heard circuit kind message) ≡ Accepted position circuits
    → ready ≡ Some (heard_of circuit message)

-- what was answered is the outcome
abbrev pub IsTold : Result Outcome SwitchFault → Directory → State → Event → Type 0
IsTold result d s event = (answer : Outcome) → result ≡ Ok answer → answer ≡ outcome d s event

-- the numbers go on with an event by its answer: they are those of the state behind it; they aren't current any more, where a device
-- failed; or nothing changed
abbrev pub GoesOn : Directory → State → List Entry → Event → Result Outcome SwitchFault → Counting → Type 0
GoesOn d s h event (Ok _) c = Counts d (after d s event) h c
GoesOn d s h event (Err DiskFault) c = c.current ≡ false
GoesOn d s h event (Err SayFault) c = c.current ≡ false
GoesOn d s h event (Err _) c = Counts d s h c

-- a bulletin joined the numbers
pub record Notes (old new : Numbers) (bulletin : Recent) : Type 0 where
  pub sound : IsSound new
  pub recent : new.recent.items ≡ joined old.recent.capacity old.recent.items bulletin
  pub window : new.recent.capacity ≡ old.recent.capacity
  pub drawn : new.drawn ≡ old.drawn
  pub rows : (key : List ℕ) → has_row new.rows key ≡ has_row old.rows key
  pub circuits : length new.came.items ≡ length old.came.items

-- a draw joined the numbers
pub record NotesDraw (old new : Numbers) (circuit : ℕ) (key : List ℕ) : Type 0 where
  pub sound : IsSound new
  pub drawn : new.drawn.items ≡ slice_set old.drawn.items circuit (kept_with (ring_at old circuit) key)
  pub recent : new.recent ≡ old.recent
  pub rows : (key : List ℕ) → has_row new.rows key ≡ has_row old.rows key
  pub came : new.came ≡ old.came

-- what was known stays, but for the numbers
pub record KeepsRest (old new : Counting) : Type 0 where
  pub centre : new.centre ≡ old.centre
  pub digits : new.digits ≡ old.digits
  pub current : new.current ≡ old.current

-- room was made for the numbers of a key
pub record Prepares (old new : Numbers) : Type 0 where
  pub sound : IsSound new
  pub recent : new.recent ≡ old.recent
  pub drawn : new.drawn ≡ old.drawn
  pub came : new.came ≡ old.came
  pub rows : (key : List ℕ) → IsTrue (has_row old.rows key) → IsTrue (has_row new.rows key)

-- the key of a draw, where its frame stands: behind the ten bytes of a frame's head, SOH, CR CR LF, the number and CR CR LF
abbrev pub key_of_frame : ℕ → List ℕ → List ℕ
key_of_frame digits frame = take 11 (drop (17 + digits) frame)

-- a message that was accepted at a position is noted, where it was ready
abbrev pub AfterAccepted : Option Arrival → ℕ → Counting → Counting → Type 0
AfterAccepted (Some arrival) position old new = KeepsRest old new × Notes old.numbers new.numbers (arrived position arrival)
AfterAccepted None position old new = new ≡ old

-- the numbers aren't current any more
abbrev pub outdated : Counting → Counting
outdated c = record c { current = false }

-- what is noted of an answer to a message: only an accepted bulletin is counted
abbrev pub AfterHeard : Option Arrival → Result Outcome SwitchFault → Counting → Counting → Type 0
AfterHeard ready (Ok (Accepted position circuits)) old new = AfterAccepted ready position old new
AfterHeard ready (Err DiskFault) old new = new ≡ outdated old
AfterHeard ready (Err SayFault) old new = new ≡ outdated old
AfterHeard ready _ old new = new ≡ old

-- the key that stands in a frame joined the draws of a circuit, where that is there and its bulletin was noted
pub record IsDrawn (circuit : ℕ) (frame : List ℕ) (old new : Counting) : Type 0 where
  pub rest : KeepsRest old new
  pub sound : IsSound new.numbers
  pub noted : (digits : ℕ) → slice_get old.digits.items circuit ≡ Some digits → circuit < length old.numbers.drawn.items
      → 28 + digits ≤ length frame → IsTrue (has_row old.numbers.rows (key_of_frame digits frame))
      → NotesDraw old.numbers new.numbers circuit (key_of_frame digits frame)

-- what is noted of an answer to a take: a repetition is no draw
abbrev pub AfterTaken : ℕ → List ℕ → Result Outcome SwitchFault → Counting → Counting → Type 0
AfterTaken circuit frame (Ok (Draw index)) old new = IsDrawn circuit frame old new
AfterTaken circuit frame (Err DiskFault) old new = new ≡ outdated old
AfterTaken circuit frame (Err SayFault) old new = new ≡ outdated old
AfterTaken circuit frame _ old new = new ≡ old

-- what is noted of an answer to settling: with a fault of a device the numbers aren't current any more
abbrev pub AfterSettled : Result (Unit {0}) SwitchFault → Counting → Counting → Type 0
AfterSettled (Ok _) old new = new ≡ old
AfterSettled (Err fault) old new = new ≡ outdated old

-- a state that a history has under a directory, with this need
pub record StandsAt (d : Directory) (s : State) (n : Need) : Type 0 where
  pub keeps : IsTrue (keeps_one d)
  pub ordered : IsOrdered d s
  pub need : need d s ≡ n
