-- What a run of a file through a switch left.
use Rattle.std.specs.Prelude.{◌≡◌, ◌⊎◌, ℕ, ◌≤◌, List, [], length, Option, Some, None}
use Rattle.gts_accum.specs.Cited.Below.{DiskFault, Journaled, ReplayEnd, Rose, SayFault, SourceMeanings, Standing, StandsFor, SwitchMeanings}
use Rattle.gts_replay.specs.Cited.{Ends, IsUnfailed}
use Rattle.gts_event.specs.declared.event.Entry.{Entry}
use Rattle.gts_accum.specs.Traced.{IsLeft}
use Rattle.gts_accum.specs.File.{badplace}
use Rattle.gts_accum.specs.Capture.{captured}
use Rattle.gts_record.specs.declared.fault.OpenFault.TheVariants as opening
use Rattle.gts_replay.specs.declared.end.ReplayEnd.TheVariants as end
use Rattle.gts_accum.specs.declared.end.UnpackEnd.{UnpackEnd}
use Rattle.gts_accum.specs.declared.end.UnpackEnd.TheVariants.{Bad, Ended}

-- the end of a file's run by that of the run of its capture: where the capture ended too early, the file is bad
abbrev pub IsEndOf : ReplayEnd → UnpackEnd → Type 0
IsEndOf (end.Capture at) result = (place : ℕ) × (result ≡ Bad place)
IsEndOf replayed result = result ≡ Ended replayed

-- the end of a file with this bad place, or none
abbrev pub IsEndAt : Option ℕ → UnpackEnd → Type 0
IsEndAt place (Bad at) = place ≡ Some at
IsEndAt place (Ended end.Done) = place ≡ None
IsEndAt place (Ended replayed) = Unit {0}

-- How a run of a file ended: as the run of the capture that it stands for, which ended so and left so much of it, of a switch that
-- stood for some entries since some origin. The place that is told is the bad place of the file, and a file that was done has none.
-- Where the source failed, all of the capture was run, or what the bytes stand for that were taken of the file, but for a few bytes.
pub record Unpacks {O W : Type 0} (meanings : Standing O W) (station observed : Type 0) (result : UnpackEnd) (old new : W)
    (file now : List ℕ) (c : ℕ) : Type 0 where
  pub replayed : ReplayEnd
  pub left : List ℕ
  pub is : IsEndOf replayed result
  pub ends : (o : O) (h : List Entry) → StandsFor meanings o (length h) h old
      → Ends meanings station Journaled o h observed replayed old new (captured file c) left
  pub place : (o : O) (h : List Entry) → StandsFor meanings o (length h) h old → observed → IsEndAt (badplace file) result
  pub source : result ≡ Ended end.SourceFault → observed → (left ≡ []) ⊎ IsLeft file now c left

-- an end of a file whose capture ended too early: it is bad, or its source failed
abbrev pub IsFileEnd : UnpackEnd → Type 0
IsFileEnd (Bad at) = Unit {0}
IsFileEnd (Ended end.SourceFault) = Unit {0}
IsFileEnd _ = ⊥

-- the bad place that such an end tells, where the file has one
abbrev pub IsPlaceMet : Option ℕ → UnpackEnd → Type 0
IsPlaceMet place result = (at : ℕ) → result ≡ Bad at → (place ≡ Some at) ⊎ (place ≡ None)

-- a run of a file that no device ended: the file is bad, or the run of its capture ended so
abbrev pub IsUnfailedFile : UnpackEnd → Type 0
IsUnfailedFile (Bad at) = Unit {0}
IsUnfailedFile (Ended e) = IsUnfailed e

-- the source's fault is answered only where its count rose, which never falls; a bad place, only where the count is as before
pub record HasFileCause (result : UnpackEnd) (before now : ℕ) : Type 0 where
  pub later : before ≤ now
  pub failed : result ≡ Ended end.SourceFault → Rose before now
  pub sound : IsUnfailedFile result → now ≡ before

-- A fault of a device is answered only where its count rose, and no count falls; where no device ended the run, none rose.
pub record HasUnpackCause (result : UnpackEnd) (disk disk_now say say_now source source_now : ℕ) : Type 0 where
  pub disk_later : disk ≤ disk_now
  pub say_later : say ≤ say_now
  pub source_later : source ≤ source_now
  pub disk_failed : result ≡ Ended (end.Fault DiskFault) → Rose disk disk_now
  pub compaction_failed : result ≡ Ended (end.Compaction DiskFault) → Rose disk disk_now
  pub reopen_failed : result ≡ Ended (end.Reopen opening.DiskFault) → Rose disk disk_now
  pub say_failed : result ≡ Ended (end.Fault SayFault) → Rose say say_now
  pub source_failed : result ≡ Ended end.SourceFault → Rose source source_now
  pub sound : IsUnfailedFile result → (disk_now ≡ disk) × (say_now ≡ say) × (source_now ≡ source)

-- the same, by what the switch and the source stand for
abbrev pub CountsUnpack : {W S : Type 0} → SwitchMeanings W → SourceMeanings S → UnpackEnd → (old new : W) → (before after : S) → Type 0
CountsUnpack switch source result old new before after =
    HasUnpackCause result (switch.disk_faults old) (switch.disk_faults new) (switch.say_faults old) (switch.say_faults new)
    (source.faults before) (source.faults after)
