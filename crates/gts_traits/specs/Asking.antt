-- What a call on a station leaves of its counts of faults, and of its files where it only looks.
use Rattle.std.specs.Prelude.{◌≡◌, ◌≤◌, Result, IsErr, IsErrOf, OnOk}
use Rattle.gts_traits.specs.Counts.{Rose}
use Rattle.gts_traits.specs.declared.station.Station.{Ghosts as StationMeanings}

-- The disk alone was asked. It is the disk that failed where this failed, and its count rose; where this was done the count is as
-- before. Nothing was said.
pub record AsksDisk {P T E : Type 0} (station : StationMeanings P) (result : Result T E) (old new : P) : Type 0 where
  pub later : station.disk_faults old ≤ station.disk_faults new
  pub failed : IsErr result → Rose (station.disk_faults old) (station.disk_faults new)
  pub sound : OnOk result (station.disk_faults new ≡ station.disk_faults old)
  pub say : station.say_faults new ≡ station.say_faults old

-- the same, where of the faults this one is the disk's
pub record AsksDiskOf {P T E : Type 0} (station : StationMeanings P) (fault : E) (result : Result T E) (old new : P) : Type 0 where
  pub later : station.disk_faults old ≤ station.disk_faults new
  pub failed : IsErrOf result fault → Rose (station.disk_faults old) (station.disk_faults new)
  pub sound : OnOk result (station.disk_faults new ≡ station.disk_faults old)
  pub say : station.say_faults new ≡ station.say_faults old

-- the disk alone was asked, and only for what stands there
pub record LooksAt {P T E : Type 0} (station : StationMeanings P) (result : Result T E) (old new : P) : Type 0 where
  pub told : station.observed → station.calls new ≡ station.calls old
  pub later : station.disk_faults old ≤ station.disk_faults new
  pub failed : IsErr result → Rose (station.disk_faults old) (station.disk_faults new)
  pub sound : OnOk result (station.disk_faults new ≡ station.disk_faults old)
  pub say : station.say_faults new ≡ station.say_faults old

-- the same, where of the faults this one is the disk's
pub record LooksAtOf {P T E : Type 0} (station : StationMeanings P) (fault : E) (result : Result T E) (old new : P) : Type 0 where
  pub told : station.observed → station.calls new ≡ station.calls old
  pub later : station.disk_faults old ≤ station.disk_faults new
  pub failed : IsErrOf result fault → Rose (station.disk_faults old) (station.disk_faults new)
  pub sound : OnOk result (station.disk_faults new ≡ station.disk_faults old)
  pub say : station.say_faults new ≡ station.say_faults old

-- Something was to be said, and nothing else was done. It is saying that failed where this failed, and its count rose; where this was
-- done the count is as before.
pub record AsksOutput {P T E : Type 0} (station : StationMeanings P) (result : Result T E) (old new : P) : Type 0 where
  pub later : station.say_faults old ≤ station.say_faults new
  pub failed : IsErr result → Rose (station.say_faults old) (station.say_faults new)
  pub sound : OnOk result (station.say_faults new ≡ station.say_faults old)
  pub disk : station.disk_faults new ≡ station.disk_faults old
