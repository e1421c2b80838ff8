-- What a run of a capture through a switch left: what of the capture was read, and which of its entries were added.
use Rattle.std.specs.Prelude.{◌≡◌, ℕ, ◌≤◌, ◌⊎◌, List, ◌∷◌, ◌++◌, length}
use Rattle.gts_replay.specs.Cited.Below.{AreStepsOf, BreaksIdle, BreaksOff, CaptureKind, Compact, Disk, DiskFault, EndsEarlyOf, Entry, HasDoubt, HasUnsaid, IsCompactCause, IsWholeOf, Journaled, NoMemory, OpenFault, ReadingOf, Rose, Say, SayFault, Spent, Standing, Step, Stopped, SwitchFault, compactions, entries, settled}
use Rattle.gts_replay.specs.Progress.{IsTaken}
use Rattle.gts_replay.specs.Going.{state_at, compacted_at, origin_behind, BreaksAtRestart, Remains}
use Rattle.gts_record.specs.declared.fault.OpenFault.TheVariants as opening
use Rattle.gts_replay.specs.declared.end.ReplayEnd.{ReplayEnd}
use Rattle.gts_replay.specs.declared.end.ReplayEnd.TheVariants as end

-- the entries of steps behind those for which the switch stands
abbrev pub entries_at : {O W : Type 0} → Standing O W → W → O → List Entry → List Step → List Entry
entries_at meanings now o h steps = entries (meanings.directory now) (state_at meanings now o h) steps

-- how many entries there were at each compaction of these steps
abbrev pub compactions_at : {O W : Type 0} → Standing O W → W → O → List Entry → List Step → List ℕ
compactions_at meanings now o h steps = compactions (meanings.directory now) (state_at meanings now o h) (length h) steps

-- The switch stands for the entries of these steps, behind those for which it stood, since the origin that has their compactions.
abbrev pub HasDone : {O W : Type 0} → Standing O W → O → List Entry → List Step → (old new : W) → Type 0
HasDone meanings o h steps old new =
    let all : List Entry = h ++ entries_at meanings old o h steps in
    settled meanings (compacted_at meanings o all (compactions_at meanings old o h steps)) all new

-- no capture stands at the front of these bytes
abbrev pub HasNoCapture : {O W : Type 0} → Standing O W → CaptureKind → W → List ℕ → Type 0
HasNoCapture meanings kind now bytes = (steps : List Step) → IsWholeOf kind (meanings.directory now) bytes steps → ⊥

-- The capture was read through its end, and the entries of all its steps were added.
pub record IsDone {O W : Type 0} (meanings : Standing O W) (kind : CaptureKind) (o : O) (h : List Entry)
    (observed : Type 0) (old new : W) (bytes : List ℕ) : Type 0 where
  pub steps : List Step
  pub are : AreStepsOf kind (meanings.directory old) steps
  pub whole : observed → IsWholeOf kind (meanings.directory old) bytes steps
  pub stands : HasDone meanings o h steps old new

-- The bytes are no capture: they are bad at this place, or end there. The entries of the steps before were added.
pub record IsCut {O W : Type 0} (meanings : Standing O W) (kind : CaptureKind) (o : O) (h : List Entry)
    (observed : Type 0) (at : ℕ) (old new : W) (bytes : List ℕ) : Type 0 where
  pub steps : List Step
  pub early : observed → EndsEarlyOf kind (meanings.directory old) bytes steps at
  pub none : observed → HasNoCapture meanings kind old bytes
  pub stands : HasDone meanings o h steps old new

-- The source failed. The entries of the steps that had been taken from it were added.
pub record LosesSource {O W : Type 0} (meanings : Standing O W) (kind : CaptureKind) (o : O) (h : List Entry)
    (observed : Type 0) (old new : W) (bytes left : List ℕ) : Type 0 where
  pub steps : List Step
  pub taken : observed → IsTaken kind (meanings.directory old) bytes steps left
  pub stands : HasDone meanings o h steps old new

-- these are the steps of the capture, whole or not
abbrev pub AreRead : {O W : Type 0} → Standing O W → CaptureKind → W → Type 0 → List ℕ → List Step → Type 0
AreRead meanings kind now observed bytes steps = observed → (at : ℕ) × ReadingOf kind (meanings.directory now) bytes steps at

-- a fault of a switch that may end a run: it is never given up, and want of memory is an end of its own
abbrev pub IsLasting : SwitchFault → Type 0
IsLasting Spent = ⊥
IsLasting NoMemory = ⊥
IsLasting _ = Unit {0}

-- a switch that stopped had stopped before the run
abbrev pub StoppedBefore : List Entry → SwitchFault → Type 0
StoppedBefore h (Stopped Disk) = HasDoubt h
StoppedBefore h (Stopped Say) = HasUnsaid h
StoppedBefore h _ = Unit {0}

-- the origin behind entries, with the compactions of these steps that were done by then
abbrev pub origin_at : {O W : Type 0} → Standing O W → O → List Entry → List Step → W → List Entry → O
origin_at meanings o h steps old = origin_behind meanings o (compactions_at meanings old o h steps)

-- The switch answered with this fault. Of the entries of the capture's steps those before were added. Where a device failed, the
-- last of those that it was asked for are in doubt, or unsaid; none of those that there were before the run.
pub record StopsAtFault {O W : Type 0} (meanings : Standing O W) (kind : CaptureKind) (o : O) (h : List Entry)
    (observed : Type 0) (fault : SwitchFault) (old new : W) (bytes : List ℕ) : Type 0 where
  pub steps : List Step
  pub read : AreRead meanings kind old observed bytes steps
  pub breaks : BreaksOff meanings (origin_at meanings o h steps old) (length h) h (entries_at meanings old o h steps) fault new
  pub lasting : IsLasting fault
  pub earlier : StoppedBefore h fault

-- The journal was not opened again. Of the entries of the capture's steps, those before were added.
pub record StopsAtRestart {O W : Type 0} (meanings : Standing O W) (station : Type 0) (kind : CaptureKind) (o : O) (h : List Entry)
    (observed : Type 0) (fault : OpenFault) (old new : W) (bytes : List ℕ) : Type 0 where
  pub steps : List Step
  pub read : AreRead meanings kind old observed bytes steps
  pub breaks : BreaksAtRestart meanings station (origin_at meanings o h steps old) h (entries_at meanings old o h steps) fault new
  pub of_kind : kind ≡ Journaled
  pub memory : fault ≡ opening.NoMemory → ⊥

-- The journal was to be compacted behind these of the steps, and was not: the disk left it, or nothing changed. The fault has its
-- cause.
pub record BreaksAtCompaction {O W : Type 0} (meanings : Standing O W) (o : O) (h : List Entry) (steps : List Step) (fault : SwitchFault)
    (old new : W) : Type 0 where
  pub before : List Step
  pub rest : List Step
  pub parts : steps ≡ before ++ Compact ∷ rest
  pub remains : let all : List Entry = h ++ entries_at meanings old o h before in
      Remains meanings (compacted_at meanings o all (compactions_at meanings old o h before)) all fault new
  pub cause : let all : List Entry = h ++ entries_at meanings old o h before in
      IsCompactCause (meanings.is_full_compacted (compacted_at meanings o all (compactions_at meanings old o h before)) all) all fault

-- The journal was not compacted. The entries of the capture's steps before were added.
pub record StopsAtCompaction {O W : Type 0} (meanings : Standing O W) (kind : CaptureKind) (o : O) (h : List Entry)
    (observed : Type 0) (fault : SwitchFault) (old new : W) (bytes : List ℕ) : Type 0 where
  pub steps : List Step
  pub read : AreRead meanings kind old observed bytes steps
  pub breaks : BreaksAtCompaction meanings o h steps fault old new
  pub of_kind : kind ≡ Journaled
  pub lasting : IsLasting fault
  pub earlier : StoppedBefore h fault

-- Nothing was done yet: the switch is as it was.
pub record IsUnbegun {O W : Type 0} (meanings : Standing O W) (o : O) (h : List Entry) (old now : W) : Type 0 where
  pub same : now ≡ old
  pub stands : settled meanings o h now

-- There was no memory: before the first step; or of the entries of the capture's steps, those before were added, and the journal
-- was not opened again or compacted there; or those before an event, and that it was left for want of memory.
pub record LacksMemory {O W : Type 0} (meanings : Standing O W) (station : Type 0) (kind : CaptureKind) (o : O) (h : List Entry)
    (observed : Type 0) (old new : W) (bytes : List ℕ) : Type 0 where
  pub steps : List Step
  pub read : AreRead meanings kind old observed bytes steps
  pub stands : IsUnbegun meanings o h old new
      ⊎ (BreaksAtRestart meanings station (origin_at meanings o h steps old) h (entries_at meanings old o h steps) opening.NoMemory new
      ⊎ (BreaksAtCompaction meanings o h steps NoMemory old new
      ⊎ BreaksIdle meanings (origin_at meanings o h steps old) h (entries_at meanings old o h steps) NoMemory new))

-- How a run of a capture of this kind ended, by its answer: of a switch that stood for these entries since this origin, over a source with
-- these bytes.
pub record Ends {O W : Type 0} (meanings : Standing O W) (station : Type 0) (kind : CaptureKind) (o : O) (h : List Entry)
    (observed : Type 0) (result : ReplayEnd) (old new : W) (bytes left : List ℕ) : Type 0 where
  pub done : result ≡ end.Done → IsDone meanings kind o h observed old new bytes
  pub capture : (at : ℕ) → result ≡ end.Capture at → IsCut meanings kind o h observed at old new bytes
  pub source_fault : result ≡ end.SourceFault → LosesSource meanings kind o h observed old new bytes left
  pub reopen : (fault : OpenFault) → result ≡ end.Reopen fault → StopsAtRestart meanings station kind o h observed fault old new bytes
  pub compaction : (fault : SwitchFault) → result ≡ end.Compaction fault → StopsAtCompaction meanings kind o h observed fault old new bytes
  pub fault : (fault : SwitchFault) → result ≡ end.Fault fault → StopsAtFault meanings kind o h observed fault old new bytes
  pub no_memory : result ≡ end.NoMemory → LacksMemory meanings station kind o h observed old new bytes

-- a run that no device ended: the capture was read through its end, or its bytes are no capture
abbrev pub IsUnfailed : ReplayEnd → Type 0
IsUnfailed end.Done = Unit {0}
IsUnfailed (end.Capture at) = Unit {0}
IsUnfailed _ = ⊥

-- A fault of a device is answered only where its count rose, and no count falls; where no device ended the run, none rose.
pub record HasReplayCause (result : ReplayEnd) (disk disk_now say say_now source source_now : ℕ) : Type 0 where
  pub disk_later : disk ≤ disk_now
  pub say_later : say ≤ say_now
  pub source_later : source ≤ source_now
  pub disk_failed : result ≡ end.Fault DiskFault → Rose disk disk_now
  pub compaction_failed : result ≡ end.Compaction DiskFault → Rose disk disk_now
  pub reopen_failed : result ≡ end.Reopen opening.DiskFault → Rose disk disk_now
  pub say_failed : result ≡ end.Fault SayFault → Rose say say_now
  pub source_failed : result ≡ end.SourceFault → Rose source source_now
  pub sound : IsUnfailed result → (disk_now ≡ disk) × (say_now ≡ say) × (source_now ≡ source)
