-- What each end of the command `check` means for what it works on. Which text is said isn't told here: its lines are tested.
use Rattle.std.specs.Prelude.{◌≡◌, ℕ, List, ◌∷◌}
use Rattle.gts_app.specs.Cited.Below.{Breaks, Did, Ghosts as StationMeanings, Rose, Says, SourceMeanings}
use Rattle.gts_app.specs.declared.status.Status.{Status}
use Rattle.gts_app.specs.declared.status.Status.TheVariants.{Done, Usage, Directory, InputFault, OutputFault, NoMemory}
use Rattle.gts_app.specs.Replay.{World}
use Rattle.gts_app.specs.Pack.{IsAccepted, IsTurnedAway, IsUnbegun, KeepsFiles}

-- For each status, what it means: one text was said on channel 0 about a directory that was accepted, or a front of it, or nothing was.
abbrev pub InspectedAs : {S P : Type 0} → SourceMeanings S → StationMeanings P → Status → World S S P → World S S P → Type 0
InspectedAs source station Done old new =
    IsAccepted source old × (new.capture ≡ old.capture)
    × (station.observed → (text : List ℕ) × (station.calls new.station ≡ Did (Says 0 text) ∷ station.calls old.station))
InspectedAs source station OutputFault old new =
    IsAccepted source old × (new.capture ≡ old.capture) × Rose (station.say_faults old.station) (station.say_faults new.station)
    × (station.observed → (text : List ℕ) × Breaks (Says 0 text) (station.calls old.station) (station.calls new.station))
InspectedAs source station InputFault old new =
    IsUnbegun old new × Rose (source.faults old.directory) (source.faults new.directory)
InspectedAs source station (Directory fault) old new = IsTurnedAway source fault old new
InspectedAs source station Usage old new = IsUnbegun old new × IsAccepted source old
InspectedAs source station NoMemory old new = IsUnbegun old new
InspectedAs source station _ old new = ⊥

-- what its end means, and what holds of every run
pub record Inspects {S P : Type 0} (source : SourceMeanings S) (station : StationMeanings P) (status : Status)
    (old new : World S S P) : Type 0 where
  pub means : InspectedAs source station status old new
  pub keeps : KeepsFiles source station old new
