-- What each end of the command `ship` means for what it works on.
use Rattle.std.specs.Prelude.{◌≡◌, ◌⊎◌, ℕ, Option, Result, Ok, Err}
use Rattle.gts_app.specs.Cited.Below.{Ghosts as StationMeanings, IsShipFault, OnlySyncs, OpenFault, Rose, SaysFrontSynced, ShipFault, ShipsOnly, Since, SourceMeanings, asked_of, directory_of_bytes, opens, seen}
use Rattle.gts_directory.specs.Directory as directories
use Rattle.gts_record.specs.declared.fault.OpenFault.TheVariants as opening
use Rattle.gts_standby.specs.declared.fault.ShipFault.TheVariants as ship
use Rattle.gts_app.specs.declared.status.Status.{Status}
use Rattle.gts_app.specs.declared.status.Status.TheVariants.{Done, Directory, NoJournal, OldVersion, OtherDirectory, Damaged, DiskFault, InputFault, OutputFault, NoMemory}
use Rattle.gts_app.specs.Ending.{refusal}
use Rattle.gts_app.specs.Reading.{ReadsFew}
use Rattle.gts_app.specs.Opening.{NoneFalls, Under}

-- a fault keeps its name
abbrev pub status_shipped : Result (Unit {0}) ShipFault → Status
status_shipped (Ok _) = Done
status_shipped (Err (ship.Open fault)) = refusal fault
status_shipped (Err ship.DiskFault) = DiskFault
status_shipped (Err ship.SayFault) = OutputFault
status_shipped (Err ship.NoMemory) = NoMemory

-- at most a sync was tried; or the files were synced, and then a front of what was asked for was said, and nothing else
abbrev pub SaysSome : {S P : Type 0} → Option Since → SourceMeanings S → StationMeanings P → S → (old new : P) → Type 0
SaysSome since source station directory old new =
    Under source station directory (λ d. SaysFrontSynced (station.calls old) (station.calls new) (asked_of d (station.calls old) since))

-- the files open to this fault, and at most a sync was tried
abbrev pub RefusedBy : {S P : Type 0} → OpenFault → Option Since → SourceMeanings S → StationMeanings P → S → (old new : P) → Type 0
RefusedBy fault since source station directory old new =
    Under source station directory
    (λ d. IsShipFault (ship.Open fault) d (station.calls old) (station.calls new) (asked_of d (station.calls old) since))

-- For each status, what it means: the journal opens, it was synced, and then what was asked for of its feed was said on channel 0; or
-- why it was not, or not all of it.
abbrev pub ShippedAs : {S P : Type 0} → Option Since → SourceMeanings S → StationMeanings P → Status → S → P → S → P → Type 0
ShippedAs since source station Done od old nd new =
    Under source station od
    (λ d. ShipsOnly d (station.calls old) (station.calls new) (asked_of d (station.calls old) since))
ShippedAs since source station (Directory fault) od old nd new =
    (new ≡ old) × (source.observed → directory_of_bytes (source.left od) ≡ Err fault)
ShippedAs since source station NoJournal od old nd new = RefusedBy opening.NoJournal since source station od old new
ShippedAs since source station OldVersion od old nd new = RefusedBy opening.OldVersion since source station od old new
ShippedAs since source station (OtherDirectory want found) od old nd new =
    RefusedBy (opening.NotThis want found) since source station od old new
ShippedAs since source station (Damaged file at) od old nd new = RefusedBy (opening.Damaged file at) since source station od old new
ShippedAs since source station DiskFault od old nd new =
    Rose (station.disk_faults old) (station.disk_faults new) × SaysSome since source station od old new
ShippedAs since source station OutputFault od old nd new =
    Rose (station.say_faults old) (station.say_faults new) × SaysSome since source station od old new
ShippedAs since source station InputFault od old nd new = (new ≡ old) × Rose (source.faults od) (source.faults nd)
ShippedAs since source station NoMemory od old nd new = (new ≡ old) ⊎ SaysSome since source station od old new
ShippedAs since source station _ od old nd new = ⊥

-- what its end means, and what holds of every run
pub record ShipsFeed {S P : Type 0} (since : Option Since) (source : SourceMeanings S) (station : StationMeanings P) (status : Status)
    (old_directory : S) (old : P) (new_directory : S) (new : P) : Type 0 where
  pub means : ShippedAs since source station status old_directory old new_directory new
  -- what reads of the files give stays
  pub files : station.observed → (k : ℕ) → seen (station.calls new) k ≡ seen (station.calls old) k
  -- where the files don't open, at most a sync was tried
  pub unopened : source.observed → station.observed → (d : directories.Directory) (fault : OpenFault)
      → directory_of_bytes (source.left old_directory) ≡ Ok d → opens d (seen (station.calls old)) ≡ Err fault
      → OnlySyncs (station.calls old) (station.calls new)
  -- what is read, and that no count falls
  pub taken : ReadsFew source old_directory new_directory
  pub counts : NoneFalls source station old_directory new_directory old new
