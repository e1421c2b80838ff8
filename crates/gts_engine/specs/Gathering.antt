-- What an engine has gathered that isn't in its journal yet, what bringing it there leaves, and what a call leaves that gathers.
use Rattle.std.specs.Prelude.{◌≡◌, ◌⊎◌, ℕ, ◌<◌, ◌≤◌, length, take, true, false, List, [], ◌∷◌, ◌++◌, Result, Ok, Err, OnOk, IfOk, IfErr}
use Rattle.gts_engine.specs.Cited.Below.{AfterCall, AfterSettling, AreNext, AsksOutput, Call, Directory, DiskFault, EachSince, Entry, Event, Files, Gathered, Holds, InHand, IsAnswered, IsFront, IsSettling, MOST_TOGETHER, OpensTo, OpensToOneOf, Outcome, Outside, Record, SaidSince, SayFault, Says, StandsFor, State, StationMeanings, SwitchFault, Taken, Tries, after_records, no_records, on, outcome as outcome_of, said_by, slice_index_or}
use Rattle.gts_engine.specs.declared.mode.SayMode.{SayMode}
use Rattle.gts_engine.specs.declared.mode.SayMode.TheVariants.{Caller}
use Rattle.gts_engine.specs.declared.parts.EngineParts.{EngineParts}
use Rattle.gts_engine.specs.Sayings.{held_pieces, joined, no_sayings}
use Rattle.gts_engine.specs.Engine.{Engine, engine_of, shown}
use Rattle.gts_engine.specs.Origin.{Origin}
use Rattle.gts_engine.specs.Keeping.{Gathers, state_behind, meanings_of, none_drawn}
use Rattle.gts_engine.specs.Going.{stopped_after}
use Rattle.gts_engine.specs.EngineParts.{IsSound, IsIdleAnswer, shows, OnlySaid}
use Rattle.gts_engine.specs.Causes.{HasStationCause}

-- whatever state the journal stood for, and whatever records were gathered, a crash since leaves that state, or the one with all
-- of them
abbrev pub MayBring : Directory → List Call → InHand → Gathered → List Call → Type 0
MayBring d old j b new =
    (s : State) (rs : List Record) → StandsFor d s old j → AreNext d s j rs b → EachSince old new (OpensToOneOf d s (after_records d s rs))

-- and now the journal stands for the one with all of them
abbrev pub HasBrought : Directory → List Call → InHand → Gathered → List Call → InHand → Type 0
HasBrought d old j b new next =
    (s : State) (rs : List Record) → StandsFor d s old j → AreNext d s j rs b → StandsFor d (after_records d s rs) new next

-- only the station, the journal, what was gathered and what stopped it are other ones
abbrev pub OnlyBrought : {P : Type 0} → (old new : EngineParts P) → Type 0
OnlyBrought old new = new ≡ record old { station = new.station; journal = new.journal; batch = new.batch; stopped = new.stopped }

-- and what is held, and the counts of draws
abbrev pub OnlySettled : {P : Type 0} → (old new : EngineParts P) → Type 0
OnlySettled old new =
    new ≡ record old {
      station = new.station;
      journal = new.journal;
      batch = new.batch;
      held = new.held;
      drawn = new.drawn;
      stopped = new.stopped;
    }

-- nothing is gathered any more
pub record IsCleared {P : Type 0} (old new : EngineParts P) : Type 0 where
  pub rest : new ≡ record old { batch = no_records old.journal; held = no_sayings; drawn = new.drawn }
  pub drawn : new.drawn ≡ none_drawn

-- the files open to a state, and a front of this got outside
abbrev pub OpensAlong : Directory → State → Outside → Files → Outside → Type 0
OpensAlong d s outside files out = IsFront out outside × OpensTo d s files

-- nothing was said and the files open to the first of two states; or they open to the second, and a front of this got outside
abbrev pub OpensBetween : Directory → State → State → Outside → Files → Outside → Type 0
OpensBetween d s t outside files out = ((out ≡ []) × OpensTo d s files) ⊎ OpensAlong d t outside files out

-- These pieces were to be said, over a journal: whatever state that stands for, it stays at each moment.
pub record SaysHeld (d : Directory) (pieces : List Outside) (old new : List Call) (j : InHand) : Type 0 where
  pub moments : (s : State) → StandsFor d s old j → EachSince old new (OpensAlong d s (joined pieces))
  pub stands : (s : State) → StandsFor d s old j → StandsFor d s new j

-- a piece was to be said: it was, or a front of it
abbrev pub TriesPiece : {T E : Type 0} → Outside → Result T E → List Call → List Call → Type 0
TriesPiece piece result old new =
    (channel : ℕ) × (bytes : List ℕ) × (piece ≡ on channel bytes)
    × (Tries (Says channel bytes) result old new ⊎ ((bytes ≡ []) × (new ≡ old)))

-- saying failed at this one of these pieces: those before it were said, and of it a front
pub record FailsAt (observed : Type 0) (pieces : List Outside) (i : ℕ) (old new : List Call) : Type 0 where
  pub within : i < length pieces
  pub said : observed → (part : Outside) × IsFront part (slice_index_or pieces i []) × SaidSince old new (joined (take i pieces) ++ part)

-- all of them were said, or saying failed at one of them
abbrev pub SaysAll : Type 0 → List Outside → Result (Unit {0}) ℕ → List Call → List Call → Type 0
SaysAll observed pieces (Ok _) old new = observed → SaidSince old new (joined pieces)
SaysAll observed pieces (Err i) old new = FailsAt observed pieces i old new

-- what was said of them, by the answer
abbrev pub SaysBy : Type 0 → List Outside → Result (Unit {0}) SwitchFault → List Call → List Call → Type 0
SaysBy observed pieces (Ok _) old new = observed → SaidSince old new (joined pieces)
SaysBy observed pieces (Err SayFault) old new = (i : ℕ) × FailsAt observed pieces i old new
SaysBy observed pieces (Err _) old new = observed → said_by new ≡ said_by old

-- the journal stands for a state, unless the disk failed
abbrev pub StandsUnlessDisk : Directory → State → Result (Unit {0}) SwitchFault → List Call → InHand → Type 0
StandsUnlessDisk d t (Err DiskFault) new next = Unit {0}
StandsUnlessDisk d t result new next = StandsFor d t new next

-- Records were to be brought into the journal, that lead from one state to another, and then these pieces were to be said.
pub record Brings (d : Directory) (s t : State) (pieces : List Outside) (result : Result (Unit {0}) SwitchFault) (old new : List Call)
    (next : InHand) : Type 0 where
  pub moments : EachSince old new (OpensBetween d s t (joined pieces))
  pub stands : StandsUnlessDisk d t result new next

-- whatever state the journal of these parts stood for, and whatever records were gathered
abbrev pub BringsAndSays : {P : Type 0} → Result (Unit {0}) SwitchFault → (old new : List Call) → EngineParts P → InHand → Type 0
BringsAndSays result old new parts next =
    (s : State) (rs : List Record) → StandsFor parts.directory s old parts.journal → AreNext parts.directory s parts.journal rs parts.batch
    → Brings parts.directory s (after_records parts.directory s rs) (held_pieces parts.held) result old new next

-- a device failed
abbrev pub IsDeviceFault : SwitchFault → Type 0
IsDeviceFault DiskFault = Unit {0}
IsDeviceFault SayFault = Unit {0}
IsDeviceFault _ = ⊥

-- only what is held is another one
abbrev pub OnlyHeld : {P : Type 0} → (old new : EngineParts P) → Type 0
OnlyHeld old new = new ≡ record old { held = new.held }

-- Bytes were to be said on a channel, with this answer: at once, where nothing was gathered; else they are held behind what is held.
pub record HasTold {P : Type 0} (station : StationMeanings P) (channel : ℕ) (bytes : List ℕ)
    (result : Result (Unit {0}) SwitchFault) (old new : EngineParts P) : Type 0 where
  pub told : (engine_of old).gathered ≡ false → station.observed
      → Tries (Says channel bytes) result (station.calls old.station) (station.calls new.station)
  pub rest : (engine_of old).gathered ≡ false → OnlySaid old new
  pub held : (engine_of old).gathered ≡ true
      → (result ≡ Ok tt) × OnlyHeld old new × ((engine_of new).held ≡ (engine_of old).held ++ on channel bytes ∷ [])
  pub few : length (engine_of new).held ≤ MOST_TOGETHER
  pub stops : new.stopped ≡ stopped_after old.stopped result
  pub fault : IfErr result (λ fault. fault ≡ SayFault)
  pub cause : AsksOutput station result old.station new.station

-- What was gathered in an engine that goes on was to be brought into the journal and said, with this answer.
pub record HasSettled {P : Type 0} (station : StationMeanings P)
    (result : Result (Unit {0}) SwitchFault) (old new : EngineParts P) : Type 0 where
  pub settles : (mode : SayMode) (o : Origin) (entries : List Entry) (events : List Event)
      → Gathers station.observed mode o entries events (shows station.calls old)
      → AfterSettling (meanings_of station mode) o entries events result (engine_of new)
  pub sound : IsSound station new
  pub stops : new.stopped ≡ stopped_after old.stopped result
  pub kind : IfErr result IsDeviceFault
  pub rest : OnlySettled old new
  pub used : OnOk result ((engine_of new).used ≡ (engine_of old).used)
  pub emptied : (engine_of new).gathered ≡ false
  pub silent : new.held ≡ no_sayings
  pub undrawn : new.drawn ≡ none_drawn
  pub nothing : (engine_of old).gathered ≡ false → (result ≡ Ok tt) × (new ≡ old)
  pub cause : HasStationCause station result old.station new.station

-- the parts stay as they are, or what was gathered was settled
abbrev pub MayHaveSettled : {P : Type 0} → StationMeanings P → Result (Unit {0}) SwitchFault → (old new : EngineParts P) → Type 0
MayHaveSettled station result old new = ((result ≡ Ok tt) × (new ≡ old)) ⊎ HasSettled station result old new

-- What a call for an event leaves, whatever entries the engine stood for and whatever events were gathered.
abbrev pub LeavesCall : {P : Type 0} → StationMeanings P → SayMode → Event → Result Outcome SwitchFault → (old new : Engine P) → Type 0
LeavesCall station mode event result old new =
    (o : Origin) (entries : List Entry) (events : List Event) → Gathers station.observed mode o entries events (shown station.calls old)
    → AfterCall (meanings_of station mode) o entries events event result new

-- A call over the parts was answered so, and leaves by the way in which frames are said what a call leaves. The answer is the
-- outcome; the parts are sound again; and a device that failed stopped them, and was counted.
pub record AnswersIn {P : Type 0} (station : StationMeanings P) (mode : SayMode) (event : Event)
    (result : Result Outcome SwitchFault) (old new : EngineParts P) : Type 0 where
  pub called : LeavesCall station mode event result (engine_of old) (engine_of new)
  pub outcome : IfOk result (λ answer. (s : State) → Holds old.directory old.core s → answer ≡ outcome_of old.directory s event)
  pub directory : new.directory ≡ old.directory
  pub sound : IsSound station new
  pub stops : new.stopped ≡ stopped_after old.stopped result
  pub cause : HasStationCause station result old.station new.station

-- whoever says the frames
abbrev pub Answers : {P : Type 0} → StationMeanings P → Event → Result Outcome SwitchFault → (old new : EngineParts P) → Type 0
Answers station event result old new = (mode : SayMode) → AnswersIn station mode event result old new

-- what a call on an engine was answered, and leaves, as an engine that gathers
abbrev pub GathersEntry : {P : Type 0} → StationMeanings P → SayMode → Event → Result Outcome SwitchFault → (old new : Engine P) → Type 0
GathersEntry station mode event result old new = IsAnswered (meanings_of station mode) event result old new

-- A take on c was gathered behind whatever events were, and nothing was settled before: the answer is the event's outcome. The caller
-- says the frame.
pub record TakesBehind {P : Type 0} (station : StationMeanings P) (c : ℕ) (answer : Outcome)
    (old new : Engine P) : Type 0 where
  pub directory : new.directory ≡ old.directory
  pub gathers : (o : Origin) (entries : List Entry) (events : List Event)
      → Gathers station.observed Caller o entries events (shown station.calls old)
      → Gathers station.observed Caller o entries (events ++ Taken c ∷ []) (shown station.calls new)
  pub outcome : (o : Origin) (entries : List Entry) (events : List Event)
      → Gathers station.observed Caller o entries events (shown station.calls old)
      → answer ≡ outcome_of o.directory (state_behind o entries events) (Taken c)

-- A call changed nothing: what was gathered before it is settled, and nothing is gathered.
pub record HasOnlySettled {P : Type 0} (station : StationMeanings P) (old new : Engine P) : Type 0 where
  pub settling : (mode : SayMode) → IsSettling (meanings_of station mode) (Ok tt) old new
  pub emptied : new.gathered ≡ false

-- where nothing changed
abbrev pub OnIdle : {P : Type 0} → StationMeanings P → Result Outcome SwitchFault → (old new : Engine P) → Type 0
OnIdle station result old new = IsIdleAnswer result → HasOnlySettled station old new

-- What was gathered was to be settled, whoever says the frames. Nothing is gathered any more.
pub record SettlesEngine {P : Type 0} (station : StationMeanings P) (result : Result (Unit {0}) SwitchFault)
    (old new : Engine P) : Type 0 where
  pub settling : (mode : SayMode) → IsSettling (meanings_of station mode) result old new
  pub emptied : new.gathered ≡ false
  pub nothing : old.gathered ≡ false → (result ≡ Ok tt) × (new ≡ old)
