-- What each end of the command `pack` means for what it works on.
use Rattle.std.specs.Prelude.{◌≡◌, ◌⊎◌, ℕ, ◌≤◌, Ok, Err, None}
use Rattle.gts_app.specs.Cited.Below.{DirFault, Ghosts as StationMeanings, IsBad, IsTaken, PackEnd, Rose, SaysFront, SaysOnly, SourceMeanings, bad_in_stream, directory_of_bytes, on, packed, seen}
use Rattle.gts_directory.specs.Directory as directories
use Rattle.gts_accum.specs.declared.pack_end.PackEnd.TheVariants as end
use Rattle.gts_app.specs.declared.status.Status.{Status}
use Rattle.gts_app.specs.declared.status.Status.TheVariants.{Done, Directory, File, InputFault, OutputFault, NoMemory}
use Rattle.gts_app.specs.Replay.{World}
use Rattle.gts_app.specs.Reading.{ReadsFew}

abbrev pub status_packed : PackEnd → Status
status_packed end.Done = Done
status_packed (end.Bad at) = File at
status_packed end.SourceFault = InputFault
status_packed end.SayFault = OutputFault
status_packed end.NoMemory = NoMemory

-- where the source is observed, the directory's bytes are a directory
abbrev pub IsAccepted : {S P : Type 0} → SourceMeanings S → World S S P → Type 0
IsAccepted source old = source.observed → (d : directories.Directory) × (directory_of_bytes (source.left old.directory) ≡ Ok d)

-- nothing was read of what stands beside the directory, and nothing was done with the station
abbrev pub IsUnbegun : {S P : Type 0} → World S S P → World S S P → Type 0
IsUnbegun old new = (new.capture ≡ old.capture) × (new.station ≡ old.station)

-- the directory has this fault, and nothing else was read, and nothing said
abbrev pub IsTurnedAway : {S P : Type 0} → SourceMeanings S → DirFault → World S S P → World S S P → Type 0
IsTurnedAway source fault old new = IsUnbegun old new × (source.observed → directory_of_bytes (source.left old.directory) ≡ Err fault)

-- For each status, what it means: the file of the stream's messages was said on channel 0, with its end where the stream isn't bad.
abbrev pub PackedAs : {S P : Type 0} → SourceMeanings S → StationMeanings P → Status → World S S P → World S S P → Type 0
PackedAs source station Done old new =
    IsAccepted source old
    × (source.observed → (bad_in_stream (source.left old.capture) ≡ None)
    × (station.observed → SaysOnly (station.calls old.station) (station.calls new.station) (on 0 (packed (source.left old.capture)))))
PackedAs source station (File at) old new =
    IsAccepted source old
    × (source.observed → IsBad station.observed (station.calls old.station) (station.calls new.station) (source.left old.capture) at)
PackedAs source station OutputFault old new =
    IsAccepted source old × Rose (station.say_faults old.station) (station.say_faults new.station)
    × (source.observed → station.observed
    → SaysFront (station.calls old.station) (station.calls new.station) (on 0 (packed (source.left old.capture))))
PackedAs source station InputFault old new =
    (IsUnbegun old new × Rose (source.faults old.directory) (source.faults new.directory))
    ⊎ (IsAccepted source old × Rose (source.faults old.capture) (source.faults new.capture)
    × (source.observed → IsTaken station.observed (station.calls old.station) (station.calls new.station)
    (source.left old.capture) (source.left new.capture)))
PackedAs source station (Directory fault) old new = IsTurnedAway source fault old new
PackedAs source station NoMemory old new = IsUnbegun old new
PackedAs source station _ old new = ⊥

-- Of the source of the directory no more is read than it may have and a byte, no count falls, and the files stay.
pub record KeepsFiles {S P : Type 0} (source : SourceMeanings S) (station : StationMeanings P) (old new : World S S P) : Type 0 where
  pub taken : ReadsFew source old.directory new.directory
  pub source_counts : (source.faults old.directory ≤ source.faults new.directory)
      × (source.faults old.capture ≤ source.faults new.capture)
  pub station_counts : (station.say_faults old.station ≤ station.say_faults new.station)
      × (station.disk_faults new.station ≡ station.disk_faults old.station)
  pub files : station.observed → (k : ℕ) → seen (station.calls new.station) k ≡ seen (station.calls old.station) k

-- what its end means, and what holds of every run
pub record PacksStream {S P : Type 0} (source : SourceMeanings S) (station : StationMeanings P) (status : Status)
    (old new : World S S P) : Type 0 where
  pub means : PackedAs source station status old new
  pub keeps : KeepsFiles source station old new
