-- What a function that takes or says a feed leaves of the counts of faults, and of the journal that it reads.
use Rattle.std.specs.Prelude.{◌≡◌, ◌⊎◌, ◌≤◌, ◌<◌, false, List, Option, Some, None, Result, Ok, Err, IsErrOf, OnOk}
use Rattle.gts_standby.specs.Cited.Below.{Call, Gives, HasGoneOn, InHand, OpenFault, Rose, StandsOn, record_of}
use Rattle.gts_standby.specs.declared.end.FollowEnd.{FollowEnd}
use Rattle.gts_standby.specs.declared.end.FollowEnd.TheVariants.{DiskFault, SourceFault}
use Rattle.gts_standby.specs.declared.fault.ShipFault.{ShipFault}
use Rattle.gts_standby.specs.declared.fault.ShipFault.TheVariants as fault
use Rattle.gts_standby.specs.Following.{IsEnd}
use Rattle.gts_traits.specs.declared.source.Source.{Ghosts as SourceMeanings}
use Rattle.gts_traits.specs.declared.station.Station.{Ghosts as StationMeanings}
use Rattle.gts_record.specs.declared.value.Record.{Record}
use Rattle.gts_record.specs.Record as texts

-- an answer with which no device failed: what was sought, or the end of a feed
abbrev pub IsStill : {T : Type 0} → Result T FollowEnd → Type 0
IsStill (Ok _) = Unit {0}
IsStill (Err end) = IsEnd end

-- The feed's source alone was asked. Its count rose where its fault is answered; where the answer tells that no device failed, the
-- count is as before.
pub record AsksFeed {S T : Type 0} (source : SourceMeanings S) (result : Result T FollowEnd) (old new : S) : Type 0 where
  pub later : source.faults old ≤ source.faults new
  pub failed : IsErrOf result SourceFault → Rose (source.faults old) (source.faults new)
  pub sound : IsStill result → source.faults new ≡ source.faults old

-- The disk and the feed's source were asked, and nothing was said. The count of each rose where its fault is answered; where the answer
-- tells that no device failed, both are as before.
pub record AsksBoth {P S T : Type 0} (station : StationMeanings P) (source : SourceMeanings S) (result : Result T FollowEnd) (old new : P)
    (before now : S) : Type 0 where
  pub disk_fault : IsErrOf result DiskFault → Rose (station.disk_faults old) (station.disk_faults new)
  pub source_fault : IsErrOf result SourceFault → Rose (source.faults before) (source.faults now)
  pub later : station.disk_faults old ≤ station.disk_faults new
  pub sound : IsStill result → (station.disk_faults new ≡ station.disk_faults old) × (source.faults now ≡ source.faults before)
  pub say : station.say_faults new ≡ station.say_faults old
  pub source_later : source.faults before ≤ source.faults now

-- What the end of a feed tells of the disk's count: it rose where the disk's fault is answered, and at an end of the feed it is as
-- before. It never falls, and nothing was said.
pub record HasDiskCounts {P : Type 0} (station : StationMeanings P) (end : FollowEnd) (old new : P) : Type 0 where
  pub disk_fault : end ≡ DiskFault → Rose (station.disk_faults old) (station.disk_faults new)
  pub later : station.disk_faults old ≤ station.disk_faults new
  pub sound : IsEnd end → station.disk_faults new ≡ station.disk_faults old
  pub say : station.say_faults new ≡ station.say_faults old

-- What a feed's end tells of the counts of faults: that of the disk or of the feed's source rose where its fault is answered, and at an
-- end of the feed none did. None falls, and saying doesn't fail.
pub record HasEndCounts {P S : Type 0} (station : StationMeanings P) (source : SourceMeanings S) (end : FollowEnd) (old new : P)
    (before now : S) : Type 0 where
  pub disk_fault : end ≡ DiskFault → Rose (station.disk_faults old) (station.disk_faults new)
  pub source_fault : end ≡ SourceFault → Rose (source.faults before) (source.faults now)
  pub later : station.disk_faults old ≤ station.disk_faults new
  pub sound : IsEnd end → (station.disk_faults new ≡ station.disk_faults old) × (source.faults now ≡ source.faults before)
  pub say : station.say_faults new ≡ station.say_faults old
  pub source_later : source.faults before ≤ source.faults now

-- The disk was asked, and something was to be said. The count of each fault rose where it is answered; where all was said, both are as
-- before. None falls.
pub record AsksToShip {P T : Type 0} (station : StationMeanings P) (result : Result T ShipFault) (old new : P) : Type 0 where
  pub disk_fault : IsErrOf result fault.DiskFault → Rose (station.disk_faults old) (station.disk_faults new)
  pub say_fault : IsErrOf result fault.SayFault → Rose (station.say_faults old) (station.say_faults new)
  pub later : station.disk_faults old ≤ station.disk_faults new
  pub say : station.say_faults old ≤ station.say_faults new
  pub sound : OnOk result ((station.disk_faults new ≡ station.disk_faults old) × (station.say_faults new ≡ station.say_faults old))

-- the journal that is read stands behind a further record, and isn't at its end
pub record GoesOn (observed : Type 0) (calls : List Call) (old new : InHand) : Type 0 where
  pub going : new.ended ≡ false
  pub stands : observed → StandsOn calls new
  pub rises : old.gate < new.gate
  pub version : new.version ≡ old.version

-- The record at the gate was passed. Or none was: the gate is closed, or what stands there has this fault, or a device failed.
abbrev pub PassesNext : Result (Unit {0}) OpenFault → Result (Option texts.Record) OpenFault → InHand → InHand → Type 0
PassesNext (Ok _) entry j next = (r : Record) × (entry ≡ Ok (Some (record_of r))) × HasGoneOn j (Some r) next
PassesNext (Err e) entry j next = Gives (Err e) entry ⊎ (entry ≡ Ok None)
