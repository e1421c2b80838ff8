-- The journal is compacted.
use Rattle.std.specs.Prelude.{◌≡◌, ◌≢◌, ◌-◌, ◌^◌, ℕ, min, List, length, None, Result, Ok, Err, IfErr, OnOk}
use Rattle.gts_engine.specs.Cited.Below.{Call, Core, Directory, DiskFault, EachSince, Entry, Full, Holds, NoMemory, OpensAsBefore, State, StationMeanings, Stopped, SwitchFault, checkpoint_file, checkpoint_text, compacted_size, full_compacted, need, seen, selected}
use Rattle.gts_engine.specs.declared.room.CheckpointFull.{CheckpointFull}
use Rattle.gts_engine.specs.declared.mode.SayMode.{SayMode}
use Rattle.gts_engine.specs.declared.parts.EngineParts.{EngineParts}
use Rattle.gts_engine.specs.Engine.{Engine, engine_of, shown}
use Rattle.gts_engine.specs.Origin.{Origin, compacted_after}
use Rattle.gts_engine.specs.Keeping.{IsLeft, IsFullCompacted, Keeps}
use Rattle.gts_engine.specs.Going.{stopped_after}
use Rattle.gts_engine.specs.EngineParts.{IsSound}
use Rattle.gts_engine.specs.Causes.{HasStationCause}

-- The journal was to be compacted, with this answer: the engine stands for the same entries, behind which the journal was
-- compacted; or it was left behind them.
pub record IsCompaction {P : Type 0} (station : StationMeanings P)
    (result : Result (Unit {0}) SwitchFault) (old new : Engine P) : Type 0 where
  pub directory : new.directory ≡ old.directory
  pub done : result ≡ Ok tt → (mode : SayMode) (o : Origin) (h : List Entry) → Keeps station.observed mode o h (shown station.calls old)
      → Keeps station.observed mode (compacted_after o h) h (shown station.calls new)
  pub failed : result ≡ Err DiskFault → (mode : SayMode) (o : Origin) (h : List Entry)
      → Keeps station.observed mode o h (shown station.calls old)
      → IsLeft station.observed mode o h (shown station.calls new)

-- The other file is selected, and the one before stays as it is. The other one is the checkpoint of the need alone, and all of it
-- is in use.
pub record IsRewritten (d : Directory) (s : State) (old new : List Call) (used : ℕ) : Type 0 where
  pub other : selected (seen new) ≢ selected (seen old)
  pub stays : seen new (selected (seen old)) ≡ seen old (selected (seen old))
  pub text : seen new (selected (seen new)) ≡ checkpoint_file d.mark (need d s)
  pub size : used ≡ compacted_size (need d s)

-- The journal would be full after a compaction, and that is answered, with the bytes that are wanted up to the greatest number;
-- or it would not be full. An engine that goes on isn't stopped.
abbrev pub GivesRoom : Result (Unit {0}) SwitchFault → Directory → State → Type 0
GivesRoom (Err (Full at wanted limit)) d s = IsFullCompacted d s (Full at wanted limit)
GivesRoom (Err (Stopped by)) d s = ⊥
GivesRoom (Err NoMemory) d s = Unit {0}
GivesRoom result d s = full_compacted d s ≡ None

-- the size of the checkpoint of what is needed of a state, up to the greatest number
abbrev pub IsSizeAt : Directory → State → ℕ → Type 0
IsSizeAt d s size = size ≡ min (length (checkpoint_text (need d s))) (2 ^ 64 - 1)

-- a checkpoint and the draws that are due would pass the limit, and that is answered with the bytes; or there is room for them
abbrev pub GivesCheckpoint : Result (Unit {0}) CheckpointFull → Directory → State → Type 0
GivesCheckpoint (Err over) d s = IsFullCompacted d s (Full over.used over.need over.limit)
GivesCheckpoint (Ok done) d s = full_compacted d s ≡ None

-- an answer with which nothing changed
abbrev pub IsIdleFault : Result (Unit {0}) SwitchFault → Type 0
IsIdleFault (Err (Full used need limit)) = Unit {0}
IsIdleFault (Err (Stopped by)) = Unit {0}
IsIdleFault (Err NoMemory) = Unit {0}
IsIdleFault _ = ⊥

-- only the station, the journal, what is gathered for it and what stopped it are other ones
abbrev pub IsBehind : {P : Type 0} → (old new : EngineParts P) → Type 0
IsBehind old new = new ≡ record old { station = new.station; journal = new.journal; batch = new.batch; stopped = new.stopped }

-- each moment opens to the state that the core holds, and nothing is said
abbrev pub StaysAt : Directory → Core → List Call → List Call → Type 0
StaysAt d core old new = (s : State) → Holds d core s → EachSince old new (OpensAsBefore d s)

-- what may be answered where a checkpoint is written
abbrev pub IsWriteFault : SwitchFault → Type 0
IsWriteFault DiskFault = Unit {0}
IsWriteFault NoMemory = Unit {0}
IsWriteFault _ = ⊥

-- The journal of the parts of an engine that goes on was to go on in its other file, behind a checkpoint for which there is room.
pub record Rewrites {P : Type 0} (station : StationMeanings P)
    (result : Result (Unit {0}) SwitchFault) (old new : EngineParts P) : Type 0 where
  pub compaction : IsCompaction station result (engine_of old) (engine_of new)
  pub sound : IsSound station new
  pub moments : station.observed → StaysAt old.directory old.core (station.calls old.station) (station.calls new.station)
  pub written : station.observed → OnOk result ((s : State) → Holds old.directory old.core s
      → IsRewritten old.directory s (station.calls old.station) (station.calls new.station) (engine_of new).used)
  pub stops : new.stopped ≡ stopped_after old.stopped result
  pub kind : IfErr result IsWriteFault
  pub unchanged : IsIdleFault result → new ≡ old
  pub cause : HasStationCause station result old.station new.station

-- what may be answered where a journal is to be compacted
abbrev pub IsCompactFault : SwitchFault → Type 0
IsCompactFault DiskFault = Unit {0}
IsCompactFault (Full used need limit) = Unit {0}
IsCompactFault (Stopped by) = Unit {0}
IsCompactFault NoMemory = Unit {0}
IsCompactFault _ = ⊥

-- what may be answered where the room is looked at
abbrev pub IsRoomFault : SwitchFault → Type 0
IsRoomFault (Full used need limit) = Unit {0}
IsRoomFault _ = ⊥
