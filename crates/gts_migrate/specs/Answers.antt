-- What is answered where a journal is to be taken over.
use Rattle.std.specs.Prelude.{◌≡◌, ◌≢◌, ◌⊎◌, ◌≤◌, ℕ, List, [], Option, None, Some, Result, Ok, Err, OnOk}
use Rattle.gts_migrate.specs.Cited.Below.{Call, Directory, IsAnswer, IsFront, IsFullCompacted, Need, OldVersion, OpenFault, Outside, Rose, SaidSince, State, StationMeanings, WriteFault, full_compacted}
use Rattle.gts_event.specs.declared.fault.SwitchFault.TheVariants as switch
use Rattle.gts_record.specs.declared.fault.OpenFault.TheVariants as broke
use Rattle.gts_checkpoint.specs.declared.fault.WriteFault.TheVariants as writes
use Rattle.gts_migrate.specs.declared.waiting.Waiting.{Waiting}
use Rattle.gts_migrate.specs.declared.waiting.Waiting.TheVariants.{Refused, Dropped}
use Rattle.gts_migrate.specs.declared.fault.MigrateFault.{MigrateFault}
use Rattle.gts_migrate.specs.declared.fault.MigrateFault.TheVariants.{Open, Waits, Full, DiskFault, SayFault, NoMemory}

-- a fault of the writing of a checkpoint, as a migration is answered with it
abbrev pub write_fault : WriteFault → MigrateFault
write_fault writes.DiskFault = DiskFault
write_fault writes.NoMemory = NoMemory

-- The journal would be full under the new directory, and that is answered, with the numbers of a compaction; or it would not be.
abbrev pub IsRoomAnswer : MigrateFault → Directory → State → Type 0
IsRoomAnswer (Full at wanted limit) d s = IsFullCompacted d s (switch.Full at wanted limit)
IsRoomAnswer DiskFault d s = full_compacted d s ≡ None
IsRoomAnswer SayFault d s = full_compacted d s ≡ None
IsRoomAnswer (Open fault) d s = Unit {0}
IsRoomAnswer (Waits circuit count) d s = Unit {0}
IsRoomAnswer NoMemory d s = Unit {0}

abbrev pub GivesRoomFor : {T : Type 0} → Result T MigrateFault → Directory → State → Type 0
GivesRoomFor (Ok done) d s = full_compacted d s ≡ None
GivesRoomFor (Err fault) d s = IsRoomAnswer fault d s

-- A fault of the files is the one that they open to, and never that of an older version; else they open.
abbrev pub AnswersOpening : Result (Unit {0}) MigrateFault → Result Need OpenFault → Type 0
AnswersOpening (Err (Open fault)) opened = IsAnswer fault opened × (fault ≢ OldVersion)
AnswersOpening result opened = (n : Need) × (opened ≡ Ok n)

-- the disk failed, where the journal was opened or behind that
abbrev pub IsDiskFaultOf : Result (Unit {0}) MigrateFault → Type 0
IsDiskFaultOf (Err (Open broke.DiskFault)) = Unit {0}
IsDiskFaultOf (Err DiskFault) = Unit {0}
IsDiskFaultOf result = ⊥

-- the journal was opened
abbrev pub WasOpened : Result (Unit {0}) MigrateFault → Type 0
WasOpened (Err (Open fault)) = ⊥
WasOpened result = Unit {0}

-- an answer with which no file was touched but by the sync of the opening, and nothing was said
abbrev pub LeavesFiles : Result (Unit {0}) MigrateFault → Type 0
LeavesFiles (Err (Open fault)) = Unit {0}
LeavesFiles (Err (Waits circuit count)) = Unit {0}
LeavesFiles (Err (Full at wanted limit)) = Unit {0}
LeavesFiles (Err NoMemory) = Unit {0}
LeavesFiles result = ⊥

-- Where something waits on a circuit that is closed in the new directory, the first such circuit is answered, with how many wait;
-- else nothing waits there.
abbrev pub TellsOfWaiting : {T : Type 0} → Result T MigrateFault → Option (ℕ × ℕ) → Type 0
TellsOfWaiting (Ok done) found = found ≡ None
TellsOfWaiting (Err (Waits circuit count)) found = found ≡ Some (circuit, count)
TellsOfWaiting (Err (Full at wanted limit)) found = found ≡ None
TellsOfWaiting (Err DiskFault) found = found ≡ None
TellsOfWaiting (Err SayFault) found = found ≡ None
TellsOfWaiting (Err fault) found = Unit {0}

-- it is refused, since something waits on a closed circuit
abbrev pub IsWaitsOf : {T : Type 0} → Result T MigrateFault → Type 0
IsWaitsOf (Err (Waits circuit count)) = Unit {0}
IsWaitsOf result = ⊥

-- what waits on closed circuits is told and refused; or it never is
abbrev pub AnswersWaiting : {T : Type 0} → Waiting → Result T MigrateFault → Option (ℕ × ℕ) → Type 0
AnswersWaiting Refused result found = TellsOfWaiting result found
AnswersWaiting Dropped result found = IsWaitsOf result → ⊥

-- What was said, where this was to be said: all of it, once the journal was taken over. Where saying failed, a front of it; where the
-- disk failed, nothing or all of it; else nothing.
abbrev pub SaysFor : Result (Unit {0}) MigrateFault → Outside → (before after : List Call) → Type 0
SaysFor (Ok done) text before after = SaidSince before after text
SaysFor (Err SayFault) text before after = (front : Outside) × IsFront front text × SaidSince before after front
SaysFor (Err DiskFault) text before after = SaidSince before after [] ⊎ SaidSince before after text
SaysFor (Err fault) text before after = SaidSince before after []

-- saying failed, and the count of that rose; else the count stays
abbrev pub CountsSays : Result (Unit {0}) MigrateFault → ℕ → ℕ → Type 0
CountsSays (Err SayFault) before after = (before ≤ after) × Rose before after
CountsSays result before after = after ≡ before

-- What a migration leaves of a station's counts of faults. That of the disk rose where it was the disk that failed, and is as before
-- where the journal was taken over; that of saying rose where saying failed, and else is as before. None falls.
pub record CountsFaults {P : Type 0} (station : StationMeanings P) (result : Result (Unit {0}) MigrateFault) (old new : P) : Type 0 where
  pub later : station.disk_faults old ≤ station.disk_faults new
  pub failed : IsDiskFaultOf result → Rose (station.disk_faults old) (station.disk_faults new)
  pub sound : OnOk result (station.disk_faults new ≡ station.disk_faults old)
  pub say : CountsSays result (station.say_faults old) (station.say_faults new)

-- saying failed
abbrev pub IsSayFaultOf : Result (Unit {0}) MigrateFault → Type 0
IsSayFaultOf (Err SayFault) = Unit {0}
IsSayFaultOf result = ⊥

-- what may be answered where the room is looked at
abbrev pub IsRoomFaultOf : MigrateFault → Type 0
IsRoomFaultOf (Full at wanted limit) = Unit {0}
IsRoomFaultOf NoMemory = Unit {0}
IsRoomFaultOf fault = ⊥

-- what may be answered where it is found what is to be said
abbrev pub IsSaidFaultOf : MigrateFault → Type 0
IsSaidFaultOf (Waits circuit count) = Unit {0}
IsSaidFaultOf NoMemory = Unit {0}
IsSaidFaultOf fault = ⊥

-- what may be answered before anything is written
abbrev pub IsPreparedFaultOf : MigrateFault → Type 0
IsPreparedFaultOf (Waits circuit count) = Unit {0}
IsPreparedFaultOf fault = IsRoomFaultOf fault

-- what may be answered where the checkpoint is written, and from there on
abbrev pub IsWriteFaultOf : MigrateFault → Type 0
IsWriteFaultOf DiskFault = Unit {0}
IsWriteFaultOf SayFault = Unit {0}
IsWriteFaultOf NoMemory = Unit {0}
IsWriteFaultOf fault = ⊥
