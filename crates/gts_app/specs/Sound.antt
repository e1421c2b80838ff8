-- What holds of the devices that a command worked on, where it was done.
use Rattle.std.specs.Prelude.{◌≡◌}
use Rattle.gts_app.specs.Cited.Below.{Ghosts as StationMeanings, SourceMeanings}
use Rattle.gts_app.specs.Replay.{World}

-- no call on what a command works on failed: no count of faults rose
pub record NoneFailed {S P : Type 0} (source : SourceMeanings S) (station : StationMeanings P) (old new : World S S P) : Type 0 where
  pub directory : source.faults new.directory ≡ source.faults old.directory
  pub capture : source.faults new.capture ≡ source.faults old.capture
  pub disk : station.disk_faults new.station ≡ station.disk_faults old.station
  pub say : station.say_faults new.station ≡ station.say_faults old.station
