-- What each end of the command `unpack` means for what it works on.
use Rattle.std.specs.Prelude.{◌≡◌, ◌⊎◌, ℕ, ◌≤◌, List, [], length, Some, None, Ok}
use Rattle.gts_app.specs.Cited.Below.{Bad, Ended, Ghosts as StationMeanings, IsLeft, Journaled, SourceMeanings, UnpackEnd, badplace, captured, directory_of_bytes}
use Rattle.gts_directory.specs.Directory as directories
use Rattle.gts_app.specs.declared.status.Status.{Status}
use Rattle.gts_app.specs.declared.status.Status.TheVariants.{Done, Usage, Capture, File, InputFault}
use Rattle.gts_app.specs.Ending.{status_of}
use Rattle.gts_app.specs.Replay.{World, world, Replays}
use Rattle.gts_app.specs.Reading.{EndsIn, ReadsFew, Stays}

abbrev pub status_unpacked : UnpackEnd → Status
status_unpacked (Bad at) = File at
status_unpacked (Ended replayed) = status_of replayed

-- a file as the source of the capture that it stands for: what is left of that, and the source of the file
pub record Unpacked (S : Type 0) : Type 0 where
  pub left : List ℕ
  pub file : S

abbrev pub unpacked : {S : Type 0} → List ℕ → S → Unpacked S
unpacked left file = record { left = left; file = file }

abbrev pub capture_meanings : {S : Type 0} → SourceMeanings S → SourceMeanings (Unpacked S)
capture_meanings source = record {
  observed = source.observed;
  left = λ u. u.left;
  begun = λ u. source.begun u.file;
  faults = λ u. source.faults u.file;
}

-- c is no circuit of the directory that these bytes are
abbrev pub HasNoCircuit : List ℕ → ℕ → Type 0
HasNoCircuit bytes c = (d : directories.Directory) × (directory_of_bytes bytes ≡ Ok d) × (length d.circuits ≤ c)

-- the status of a file by that of the replay of its capture: where this ended too early, the file is bad
abbrev pub IsStatusOf : Status → Status → Type 0
IsStatusOf (Capture at) status = (place : ℕ) × (status ≡ File place)
IsStatusOf replayed status = status ≡ replayed

-- the command did what `replay` does with the capture that the file stands for
pub record ReplaysFile {S P : Type 0} (source : SourceMeanings S) (station : StationMeanings P) (c : ℕ) (status : Status)
    (old new : World S S P) : Type 0 where
  pub replayed : Status
  pub is : IsStatusOf replayed status
  pub left : List ℕ
  pub replays : Replays Journaled source (capture_meanings source) station replayed
      (world old.directory (unpacked (captured (source.left old.capture) c) old.capture) old.station)
      (world new.directory (unpacked left new.capture) new.station)
  -- where the source failed, all of it was run, or what the bytes stand for that were taken of the file, but for a few bytes
  pub source_fault : status ≡ InputFault → source.observed
      → (left ≡ []) ⊎ IsLeft (source.left old.capture) (source.left new.capture) c left

-- For each status, what it means for the world before and after, and what holds of every run.
pub record Unpacks {S P : Type 0} (source : SourceMeanings S) (station : StationMeanings P) (c : ℕ) (status : Status)
    (old new : World S S P) : Type 0 where
  -- the directory has no such circuit; nothing was read of the file, and nothing done with the station
  pub words : status ≡ Usage → (new.capture ≡ old.capture) × (new.station ≡ old.station)
      × (source.observed → HasNoCircuit (source.left old.directory) c)
  -- any other end is that of a replay
  pub replays : (status ≡ Usage → ⊥) → ReplaysFile source station c status old new
  -- the file is bad at this place; and one that was done is bad nowhere
  pub accum : (at : ℕ) → status ≡ File at → source.observed → station.observed → badplace (source.left old.capture) ≡ Some at
  pub done : status ≡ Done → source.observed → station.observed → badplace (source.left old.capture) ≡ None
  -- where the directory is read and has no such circuit, the words are other ones, but for memory
  pub circuit : source.observed → HasNoCircuit (source.left old.directory) c
      → Stays (source.faults old.directory) (source.faults new.directory) → EndsIn Usage status
  -- what is read of the directory, and that its source's count doesn't fall
  pub directory_taken : ReadsFew source old.directory new.directory
  pub directory_count : source.faults old.directory ≤ source.faults new.directory
