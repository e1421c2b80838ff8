-- What each end of the commands `migrate` and `migrate drop` means for what they work on: the directory, the old directory in the
-- place of a capture, and the station.
use Rattle.std.specs.Prelude.{◌≡◌, ◌⊎◌, ℕ, ◌≤◌, List, [], ◌∷◌, None, Some, Result, Ok, Err}
use Rattle.gts_app.specs.Cited.Below.{Call, Change, Did, DirFault, Dropped, EachSince, Ghosts as StationMeanings, IsFront, IsFullCompacted, IsMigrated, MigrateFault, Need, OnlySyncs, OpenFault, OpensEither, Outside, Refused, Rose, SaidSince, SourceMeanings, State, Syncs, TakesOver, Waiting, directory_of_bytes, files_open_any, first_change, full_compacted, need, opens_any, said_by, sayings, seen, waits_on_closed}
use Rattle.gts_migrate.specs.LettingGo.{goes_on}
use Rattle.gts_directory.specs.Directory as directories
use Rattle.gts_event.specs.declared.fault.SwitchFault.TheVariants as switch
use Rattle.gts_record.specs.declared.fault.OpenFault.TheVariants as opening
use Rattle.gts_migrate.specs.declared.fault.MigrateFault.TheVariants as fault
use Rattle.gts_app.specs.declared.status.Status.{Status}
use Rattle.gts_app.specs.declared.status.Status.TheVariants.{Done, Directory, OldDirectory, Changed, Closed, NoJournal, OldVersion, OtherDirectory, Damaged, DiskFault, InputFault, OutputFault, Full, NoMemory}
use Rattle.gts_app.specs.Ending.{refusal}
use Rattle.gts_app.specs.Pack.{IsTurnedAway}
use Rattle.gts_app.specs.Replay.{World}
use Rattle.gts_app.specs.Reading.{EndsIn, ReadsFew, Stays}

-- the status of a journal that was to be taken over
abbrev pub status_migrated : Result (Unit {0}) MigrateFault → Status
status_migrated (Ok done) = Done
status_migrated (Err (fault.Open e)) = refusal e
status_migrated (Err (fault.Waits circuit count)) = Closed circuit count
status_migrated (Err (fault.Full used need limit)) = Full used need limit
status_migrated (Err fault.DiskFault) = DiskFault
status_migrated (Err fault.SayFault) = OutputFault
status_migrated (Err fault.NoMemory) = NoMemory

-- the bytes of the two sources are these directories, the new one and the old one
abbrev pub AreRead : {S P : Type 0} → SourceMeanings S → World S S P → directories.Directory → directories.Directory → Type 0
AreRead source w new old = (directory_of_bytes (source.left w.directory) ≡ Ok new) × (directory_of_bytes (source.left w.capture) ≡ Ok old)

-- two directories, which are those of the sources where these tell, of which this holds
pub record UnderBoth {S P : Type 0} (source : SourceMeanings S) (w : World S S P)
    (OfThem : directories.Directory → directories.Directory → Type 0) : Type 0 where
  pub new : directories.Directory
  pub old : directories.Directory
  pub read : source.observed → AreRead source w new old
  pub holds : OfThem new old

-- The new directory takes over from the old one, and where the station is observed, the files open to a state under that, of which
-- this holds.
pub record OpensUnder {S P : Type 0} (station : StationMeanings P) (w : World S S P) (new old : directories.Directory)
    (OfIt : State → Type 0) : Type 0 where
  pub takes : TakesOver new old
  pub opened : station.observed → (s : State) × (used : ℕ) × (files_open_any old (seen (station.calls w.station)) ≡ Ok (s, used)) × OfIt s

-- the files are left alone, but for a sync that was tried
abbrev pub IsLeftAlone : {S P : Type 0} → StationMeanings P → World S S P → World S S P → Type 0
IsLeftAlone station w v = station.observed → OnlySyncs (station.calls w.station) (station.calls v.station)

-- Under the old directory, from which the new one takes over, the files open to this fault, and are left alone.
abbrev pub IsRefusedBy : {S P : Type 0} → SourceMeanings S → StationMeanings P → World S S P → World S S P → OpenFault → Type 0
IsRefusedBy source station w v e =
    UnderBoth source w (λ new old. TakesOver new old × (station.observed → opens_any old (seen (station.calls w.station)) ≡ Err e))
    × IsLeftAlone station w v

-- the station was not touched, and the old directory's bytes have this fault
abbrev pub IsOldRefused : {S P : Type 0} → SourceMeanings S → World S S P → World S S P → DirFault → Type 0
IsOldRefused source w v e =
    (v.station ≡ w.station)
    × (source.observed → (d : directories.Directory) × (directory_of_bytes (source.left w.directory) ≡ Ok d)
    × (directory_of_bytes (source.left w.capture) ≡ Err e))

-- something waits on a closed circuit, and is refused
abbrev pub RefusesWaiting : Waiting → directories.Directory → Need → ℕ × ℕ → Type 0
RefusesWaiting Refused new n found = waits_on_closed new n ≡ Some found
RefusesWaiting Dropped new n found = ⊥

-- nothing waits on a closed circuit, or what does is dropped
abbrev pub MayGo : Waiting → directories.Directory → Need → Type 0
MayGo Refused new n = waits_on_closed new n ≡ None
MayGo Dropped new n = Unit {0}

-- Under the old directory, from which the new one takes over, the files open; nothing is refused that waits, and there is room for what
-- goes on. Of the receipts of all that is dropped this holds.
abbrev pub IsBegunUnder : {S P : Type 0} → Waiting → SourceMeanings S → StationMeanings P → World S S P → (Outside → Type 0) → Type 0
IsBegunUnder waiting source station w OfReceipts =
    UnderBoth source w (λ new old. OpensUnder station w new old
    (λ s. MayGo waiting new (need old s) × (full_compacted new (goes_on new old (need old s)) ≡ None)
    × OfReceipts (sayings waiting new (need old s))))

-- a front of this text was said
abbrev pub SaysFrontSince : (before now : List Call) → Outside → Type 0
SaysFrontSince before now text = (front : Outside) × IsFront front text × SaidSince before now front

-- For each status, what it means: the journal was taken over, nothing that waits was refused, and the receipts of all that was dropped
-- were said; or what refused it.
-- Where the disk failed, the journal was not opened and the files are left alone; or it was opened, and nothing was said, or all. Where
-- saying failed, it was opened, and a front of the receipts was said.
abbrev pub MigratedAs : {S P : Type 0} → Waiting → SourceMeanings S → StationMeanings P → Status → World S S P → World S S P → Type 0
MigratedAs waiting source station Done w v =
    UnderBoth source w (λ new old. OpensUnder station w new old
    (λ s. MayGo waiting new (need old s) × IsMigrated old new s (station.calls w.station) (station.calls v.station)
    × SaidSince (station.calls w.station) (station.calls v.station) (sayings waiting new (need old s))))
MigratedAs waiting source station (Directory e) w v = IsTurnedAway source e w v
MigratedAs waiting source station (OldDirectory e) w v = IsOldRefused source w v e
MigratedAs waiting source station (Changed part row) w v =
    (v.station ≡ w.station) × UnderBoth source w (λ new old. first_change new old ≡ Some (record { part = part; row = row }))
MigratedAs waiting source station NoJournal w v = IsRefusedBy source station w v opening.NoJournal
MigratedAs waiting source station OldVersion w v = station.observed → ⊥
MigratedAs waiting source station (OtherDirectory want found) w v = IsRefusedBy source station w v (opening.NotThis want found)
MigratedAs waiting source station (Damaged file at) w v = IsRefusedBy source station w v (opening.Damaged file at)
MigratedAs waiting source station (Closed row count) w v =
    UnderBoth source w (λ new old. OpensUnder station w new old
    (λ s. RefusesWaiting waiting new (need old s) (row, count)))
    × IsLeftAlone station w v
MigratedAs waiting source station (Full used wanted limit) w v =
    UnderBoth source w (λ new old. OpensUnder station w new old
    (λ s. IsFullCompacted new (goes_on new old (need old s)) (switch.Full used wanted limit)))
    × IsLeftAlone station w v
MigratedAs waiting source station DiskFault w v =
    Rose (station.disk_faults w.station) (station.disk_faults v.station)
    × (IsLeftAlone station w v ⊎ IsBegunUnder waiting source station w
    (λ text. SaidSince (station.calls w.station) (station.calls v.station) []
    ⊎ SaidSince (station.calls w.station) (station.calls v.station) text))
MigratedAs waiting source station OutputFault w v =
    (waiting ≡ Dropped) × Rose (station.say_faults w.station) (station.say_faults v.station)
    × IsBegunUnder waiting source station w (SaysFrontSince (station.calls w.station) (station.calls v.station))
MigratedAs waiting source station InputFault w v =
    (v.station ≡ w.station)
    × (Rose (source.faults w.directory) (source.faults v.directory) ⊎ Rose (source.faults w.capture) (source.faults v.capture))
MigratedAs waiting source station NoMemory w v = IsLeftAlone station w v
MigratedAs waiting source station _ w v = ⊥

-- at most a sync was tried; or since a sync that was done each moment opens under the old directory, with a front of the receipts
-- said, or under the new one to what that takes over, with all said
abbrev pub LeavesJournal : {S P : Type 0} → Waiting → StationMeanings P → World S S P → World S S P
    → directories.Directory → directories.Directory → Need → Type 0
LeavesJournal waiting station w v new old n =
    OnlySyncs (station.calls w.station) (station.calls v.station)
    ⊎ EachSince (Did Syncs ∷ station.calls w.station) (station.calls v.station) (OpensEither waiting old new n)

-- no read failed
abbrev pub IsCalm : {S P : Type 0} → SourceMeanings S → World S S P → World S S P → Type 0
IsCalm source w v =
    Stays (source.faults w.directory) (source.faults v.directory) × Stays (source.faults w.capture) (source.faults v.capture)

-- What holds of every run under a directory that is to take over from an old one, whatever is made of the journal.
pub record ReadsBoth {S P : Type 0} (source : SourceMeanings S) (station : StationMeanings P) (status : Status)
    (w v : World S S P) : Type 0 where
  -- an old directory that is refused, a row that doesn't stay, and a fault of the files are answered, but for memory and devices
  pub old_refused : source.observed → (new : directories.Directory) (e : DirFault) → directory_of_bytes (source.left w.directory) ≡ Ok new
      → directory_of_bytes (source.left w.capture) ≡ Err e → IsCalm source w v → EndsIn (OldDirectory e) status
  pub changed : source.observed → (new old : directories.Directory) (c : Change) → AreRead source w new old → first_change new old ≡ Some c
      → IsCalm source w v → EndsIn (Changed c.part c.row) status
  pub answered : source.observed → station.observed → (new old : directories.Directory) (e : OpenFault) → AreRead source w new old
      → TakesOver new old → opens_any old (seen (station.calls w.station)) ≡ Err e → IsCalm source w v
      → Stays (station.disk_faults w.station) (station.disk_faults v.station) → EndsIn (refusal e) status
  -- where the directory can't be read, the old one isn't
  pub unread : source.observed → (e : DirFault) → directory_of_bytes (source.left w.directory) ≡ Err e → v.capture ≡ w.capture
  -- what is read, and that no count falls
  pub taken : ReadsFew source w.directory v.directory
  pub old_taken : ReadsFew source w.capture v.capture
  pub counts : (source.faults w.directory ≤ source.faults v.directory) × (source.faults w.capture ≤ source.faults v.capture)
      × (station.disk_faults w.station ≤ station.disk_faults v.station) × (station.say_faults w.station ≤ station.say_faults v.station)

-- What its end means, and what holds of every run.
pub record Migrates {S P : Type 0} (waiting : Waiting) (source : SourceMeanings S) (station : StationMeanings P) (status : Status)
    (w v : World S S P) : Type 0 where
  pub means : MigratedAs waiting source station status w v
  pub both : ReadsBoth source station status w v
  -- a crash at any moment since the sync of the opening leaves a journal under one of the directories
  pub moments : source.observed → station.observed → (new old : directories.Directory) (n : Need) → AreRead source w new old
      → opens_any old (seen (station.calls w.station)) ≡ Ok n → LeavesJournal waiting station w v new old n
  -- nothing is said where what waits is refused
  pub silent : station.observed → waiting ≡ Refused → said_by (station.calls v.station) ≡ said_by (station.calls w.station)
  -- what waits on a circuit that is closed in the new directory is told, unless it is to be dropped
  pub refused : source.observed → station.observed → (new old : directories.Directory) (s : State) (used : ℕ) (found : ℕ × ℕ)
      → AreRead source w new old → TakesOver new old → files_open_any old (seen (station.calls w.station)) ≡ Ok (s, used)
      → RefusesWaiting waiting new (need old s) found → IsCalm source w v
      → Stays (station.disk_faults w.station) (station.disk_faults v.station) → EndsIn (Closed found.0 found.1) status
  -- where the files open, and nothing is refused that waits, and there is room, and no device fails, it is done, but for memory
  pub complete : source.observed → station.observed → (new old : directories.Directory) (s : State) (used : ℕ) → AreRead source w new old
      → TakesOver new old → files_open_any old (seen (station.calls w.station)) ≡ Ok (s, used)
      → MayGo waiting new (need old s)
      → full_compacted new (goes_on new old (need old s)) ≡ None → IsCalm source w v
      → Stays (station.disk_faults w.station) (station.disk_faults v.station)
      → Stays (station.say_faults w.station) (station.say_faults v.station) → EndsIn Done status
  pub quiet : waiting ≡ Refused → station.say_faults v.station ≡ station.say_faults w.station
