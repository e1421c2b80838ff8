-- What each end of the command `gaps` means for what it works on.
use Rattle.std.specs.Prelude.{◌≡◌, ◌⊎◌, Ok}
use Rattle.gts_app.specs.Cited.Below.{GapsEnd, Ghosts as StationMeanings, IsCutAt, Moment, Reads, Rose, SaysFront, SaysOnly, SourceMeanings, directory_of_bytes, report_of}
use Rattle.gts_directory.specs.Directory as directories
use Rattle.gts_gap.specs.declared.fault.GapsEnd.TheVariants as end
use Rattle.gts_app.specs.declared.status.Status.{Status}
use Rattle.gts_app.specs.declared.status.Status.TheVariants.{Done, Directory, Capture, InputFault, OutputFault, NoMemory}
use Rattle.gts_app.specs.Replay.{World}
use Rattle.gts_app.specs.Pack.{IsTurnedAway, KeepsFiles}

abbrev pub status_named : GapsEnd → Status
status_named end.Done = Done
status_named (end.Capture at) = Capture at
status_named end.SourceFault = InputFault
status_named end.SayFault = OutputFault
status_named end.NoMemory = NoMemory

-- the directory's bytes, where the source is observed, are a directory of which this holds
pub record Under {S P : Type 0} (source : SourceMeanings S) (old : World S S P) (OfIt : directories.Directory → Type 0) : Type 0 where
  pub directory : directories.Directory
  pub read : source.observed → directory_of_bytes (source.left old.directory) ≡ Ok directory
  pub holds : OfIt directory

-- For each status, what it means: the report of what is missing in the whole capture was said, or a front of it, or nothing was.
abbrev pub NamedAs : {S P : Type 0} → SourceMeanings S → StationMeanings P → Moment → Status → World S S P → World S S P → Type 0
NamedAs source station moment Done old new =
    Under source old (λ d. Reads source.observed d (source.left old.capture)
    (λ steps. station.observed → SaysOnly (station.calls old.station) (station.calls new.station) (report_of d moment steps)))
NamedAs source station moment OutputFault old new =
    Rose (station.say_faults old.station) (station.say_faults new.station)
    × Under source old (λ d. Reads source.observed d (source.left old.capture)
    (λ steps. station.observed → SaysFront (station.calls old.station) (station.calls new.station) (report_of d moment steps)))
NamedAs source station moment (Capture at) old new =
    (new.station ≡ old.station) × Under source old (λ d. IsCutAt source.observed d (source.left old.capture) at)
NamedAs source station moment InputFault old new =
    (new.station ≡ old.station)
    × (Rose (source.faults old.directory) (source.faults new.directory) ⊎ Rose (source.faults old.capture) (source.faults new.capture))
NamedAs source station moment (Directory fault) old new = IsTurnedAway source fault old new
NamedAs source station moment NoMemory old new = new.station ≡ old.station
NamedAs source station moment _ old new = ⊥

-- what its end means, and what holds of every run
pub record NamesGaps {S P : Type 0} (source : SourceMeanings S) (station : StationMeanings P) (moment : Moment) (status : Status)
    (old new : World S S P) : Type 0 where
  pub means : NamedAs source station moment status old new
  pub keeps : KeepsFiles source station old new
