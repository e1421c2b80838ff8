-- The words that the functions over an engine's parts share.
use Rattle.std.specs.Prelude.{◌≡◌, ℕ, ◌+◌, ◌<◌, ◌≤◌, false, List, [], length, Option, Some, None, Result, Ok, Err, IfSome, IsOk}
use Rattle.gts_engine.specs.Cited.Below.{Accepted, Call, Device, Event, Full, HasRecord, Heard, Holds, IsAccepted, Keeps, Kind, LONGEST_FRAME, MOST_GATHERED, MOST_REPEAT, NoMemory, Outcome, State, StationMeanings, Stopped, SwitchFault, Taken, beside_body, body_of, draw_bytes, event_record, full, outcome, room, seal_size, slice_index_or, written}
use Rattle.gts_engine.specs.declared.parts.EngineParts.{EngineParts}
use Rattle.gts_engine.specs.Engine.{Engine, Shown, engine_of, shown}
use Rattle.gts_engine.specs.Keeping.{most_drawn, none_drawn}
use Rattle.gts_engine.specs.Sayings.{HasRoom, no_sayings}
use Rattle.gts_engine.specs.Going.{IsGathering, HasFewDraws, Enters}

-- An engine that goes on has gathered what leads to what its core holds; no more draws of a circuit are gathered than may be; and
-- where nothing is gathered, nothing is held, and no draw is counted. One that stopped has gathered nothing.
pub record IsSound {P : Type 0} (station : StationMeanings P) (parts : EngineParts P) : Type 0 where
  pub goes : parts.stopped ≡ None
      → IsGathering station.observed parts.directory (station.calls parts.station) parts.core parts.journal parts.batch
  pub few : HasFewDraws parts.directory parts.drawn
  pub rests : (engine_of parts).gathered ≡ false → parts.held ≡ no_sayings
  pub undrawn : (engine_of parts).gathered ≡ false → parts.drawn ≡ none_drawn
  pub idle : (by : Device) → parts.stopped ≡ Some by → (engine_of parts).gathered ≡ false

-- what the parts show
abbrev pub shows : {P : Type 0} → (P → List Call) → EngineParts P → Shown
shows calls parts = shown calls (engine_of parts)

-- An event was entered over the parts: its record was gathered, and the core goes on.
pub record HasEntered {P : Type 0} (station : StationMeanings P) (event : Event) (result : Outcome) (old new : EngineParts P)
    : Type 0 where
  pub entered : Enters old.directory event result (shows station.calls old) (shows station.calls new)
  pub sound : IsSound station new
  pub unasked : new.station ≡ old.station
  pub sayings : new.held ≡ old.held

-- the bytes of the record of a bulletin with a body of this size, with its seal and gate
abbrev pub accept_bytes : ℕ → ℕ
accept_bytes body = beside_body + seal_size written + body

-- There is room for what a take would give: for a frame, and where it draws for a record, of as many as may be gathered.
pub record TakesFrom {P : Type 0} (parts : EngineParts P) (c : ℕ) : Type 0 where
  pub frame : HasRoom parts.held LONGEST_FRAME
  pub draw : (s : State) → Holds parts.directory parts.core s → HasRecord (outcome parts.directory s (Taken c))
      → (length parts.batch.text + draw_bytes ≤ MOST_GATHERED) × (slice_index_or parts.drawn c 0 < most_drawn parts.directory c)
      × (most_drawn parts.directory c ≤ MOST_REPEAT)

-- whatever state the core holds, the journal is not full for an event
abbrev pub IsFree : {P : Type 0} → EngineParts P → Event → Type 0
IsFree parts event = (s : State) → Holds parts.directory parts.core s → full parts.directory s (engine_of parts).used event ≡ None

-- whatever state the core holds, an event has no record
abbrev pub HasNoRecord : {P : Type 0} → EngineParts P → Event → Type 0
HasNoRecord parts event = (s : State) → Holds parts.directory parts.core s → event_record parts.directory s event ≡ []

-- whatever state the core holds, a message is accepted at the next position
abbrev pub WouldAccept : {P : Type 0} → EngineParts P → Event → Type 0
WouldAccept parts event =
    (s : State) → Holds parts.directory parts.core s → (circuits : ℕ) × (outcome parts.directory s event ≡ Accepted s.count circuits)

-- an answer with which nothing changed
abbrev pub IsIdleAnswer : Result Outcome SwitchFault → Type 0
IsIdleAnswer (Err (Full used need limit)) = Unit {0}
IsIdleAnswer (Err (Stopped by)) = Unit {0}
IsIdleAnswer (Err NoMemory) = Unit {0}
IsIdleAnswer _ = ⊥

-- an engine that stopped answers with its device, and changes nothing
abbrev pub AnswersStopped : {P T : Type 0} → Result T SwitchFault → (old new : Engine P) → Type 0
AnswersStopped result old new = IfSome old.stopped (λ by. (result ≡ Err (Stopped by)) × (new ≡ old))

-- nothing was written, gathered or said, and the core holds what it held
pub record IsUnchanged {P : Type 0} (old new : Engine P) : Type 0 where
  pub station : new.station ≡ old.station
  pub directory : new.directory ≡ old.directory
  pub core : Keeps old.core new.core
  pub used : new.used ≡ old.used
  pub stopped : new.stopped ≡ old.stopped
  pub gathered : new.gathered ≡ old.gathered
  pub held : new.held ≡ old.held
  pub drawn : new.drawn ≡ old.drawn

-- the fault of a check is the one that is computed, and none where that is none
abbrev pub Gives : Result (Unit {0}) SwitchFault → Option SwitchFault → Type 0
Gives (Ok _) fault = fault ≡ None
Gives (Err found) fault = fault ≡ Some found

-- What is said of the room for each message with a body of this size that would go to so many circuits, in whatever state the
-- core holds.
abbrev pub EachRoom : {P : Type 0} → EngineParts P → (body circuits : ℕ) → (Option SwitchFault → Type 0) → Type 0
EachRoom parts body circuits Q =
    (s : State) (c : ℕ) (message : List ℕ) (kind : Kind) (p : ℕ) → Holds parts.directory parts.core s → length (body_of message) ≡ body
    → Q (room parts.directory s (engine_of parts).used (Heard c kind message) (Accepted p circuits))

-- only the station and what stopped it are other ones
abbrev pub OnlySaid : {P : Type 0} → (old new : EngineParts P) → Type 0
OnlySaid old new = new ≡ record old { station = new.station; stopped = new.stopped }

-- the same, but for want of memory, which comes only where there is room
abbrev pub GivesOrMemory : Result (Unit {0}) SwitchFault → Option SwitchFault → Type 0
GivesOrMemory (Err NoMemory) fault = fault ≡ None
GivesOrMemory result fault = Gives result fault

-- no room
abbrev pub IsFullFault : SwitchFault → Type 0
IsFullFault (Full used need limit) = Unit {0}
IsFullFault _ = ⊥

-- no room, or no memory
abbrev pub IsRoomFault : SwitchFault → Type 0
IsRoomFault (Full used need limit) = Unit {0}
IsRoomFault NoMemory = Unit {0}
IsRoomFault _ = ⊥

-- whatever state the core holds, a message that was heard is no new bulletin
abbrev pub IsNoBulletin : {P : Type 0} → EngineParts P → Event → Type 0
IsNoBulletin parts event = (s : State) → Holds parts.directory parts.core s → IsAccepted (outcome parts.directory s event) → ⊥

-- the journal had room for an event that was answered with its outcome
abbrev pub HadRoomFor : {P : Type 0} → Engine P → Event → Result Outcome SwitchFault → Type 0
HadRoomFor old event result = IsOk result → (s : State) → Holds old.directory old.core s → full old.directory s old.used event ≡ None

-- where the journal is full for an event, and nothing was gathered, that is answered
abbrev pub AnswersFull : {P : Type 0} → Engine P → Event → Result Outcome SwitchFault → Type 0
AnswersFull old event result =
    (s : State) (fault : SwitchFault) → Holds old.directory old.core s → old.stopped ≡ None → old.gathered ≡ false
    → full old.directory s old.used event ≡ Some fault → result ≡ Err fault
