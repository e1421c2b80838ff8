-- What a call on an engine leaves of the counts of faults of its station.
use Rattle.std.specs.Prelude.{◌≡◌, ◌≤◌, Result, Ok, Err}
use Rattle.gts_engine.specs.Cited.Below.{HasCallCause, HasReopenCause, OpenFault, Rose, StationMeanings, SwitchFault}
use Rattle.gts_record.specs.declared.fault.OpenFault.TheVariants.{DiskFault}
use Rattle.gts_engine.specs.Engine.{Engine}

-- a call failed only where a count rose
abbrev pub HasStationCause : {P T : Type 0} → StationMeanings P → Result T SwitchFault → (old new : P) → Type 0
HasStationCause station result old new =
    HasCallCause result (station.disk_faults old) (station.disk_faults new) (station.say_faults old) (station.say_faults new)

-- the same where a journal is opened again
abbrev pub HasStationReopenCause : {P : Type 0} → StationMeanings P → Result (Unit {0}) OpenFault → (old new : P) → Type 0
HasStationReopenCause station result old new =
    HasReopenCause result (station.disk_faults old) (station.disk_faults new) (station.say_faults old) (station.say_faults new)

-- the same where a journal is opened: nothing was to be said
abbrev pub HasOpenCause : {P : Type 0} → StationMeanings P → P → Result (Engine P) (P × OpenFault) → Type 0
HasOpenCause station before (Ok e) =
    (station.disk_faults e.station ≡ station.disk_faults before) × (station.say_faults e.station ≡ station.say_faults before)
HasOpenCause station before (Err e) =
    (station.disk_faults before ≤ station.disk_faults e.0) × (e.1 ≡ DiskFault → Rose (station.disk_faults before) (station.disk_faults e.0))
    × (station.say_faults e.0 ≡ station.say_faults before)
