-- What each end of the command `compact` means for what it works on.
use Rattle.std.specs.Prelude.{◌≡◌, ◌≢◌, ◌⊎◌, ℕ, List, ◌∷◌, None, Ok}
use Rattle.gts_app.specs.Cited.Below.{Call, Did, EachSince, Ghosts as StationMeanings, IsFullCompacted, Need, OpensAsBefore, OpensWith, Rose, SourceMeanings, Syncs, begun, checkpoint_file, compacted_size, directory_of_bytes, full_compacted, opens, said_by, seen, selected}
use Rattle.gts_directory.specs.Directory as directories
use Rattle.gts_event.specs.declared.fault.SwitchFault.TheVariants as switch
use Rattle.gts_app.specs.declared.status.Status.{Status}
use Rattle.gts_app.specs.declared.status.Status.TheVariants.{Done, DiskFault, Full}
use Rattle.gts_app.specs.Opening.{IsRefusal, Refuses, AnswersFault, NoneFalls, WhereOpened}
use Rattle.gts_app.specs.Reading.{EndsIn, ReadsFew}

-- where source and station tell, the directory is read under which the files open to a need, and this holds of both
abbrev pub Over : {S P : Type 0} → SourceMeanings S → StationMeanings P → S → P → (directories.Directory → Need → Type 0) → Type 0
Over source station directory old OfIt =
    source.observed → station.observed → (d : directories.Directory) × (n : Need) × (directory_of_bytes (source.left directory) ≡ Ok d)
    × (opens d (seen (station.calls old)) ≡ Ok n) × OfIt d n

-- At each moment since the files were synced, in the middle of a write too, a crash leaves files that open to the same; and
-- nothing was said.
abbrev pub StaysThere : directories.Directory → Need → (old new : List Call) → Type 0
StaysThere d n old new = EachSince (Did Syncs ∷ old) new (OpensAsBefore d (begun n))

-- The other file is selected, and the one before stays as it is. The other one is the checkpoint of what the files opened to, and
-- nothing more, and has so many bytes in use.
pub record IsCompacted (d : directories.Directory) (n : Need) (old new : List Call) : Type 0 where
  pub other : selected (seen new) ≢ selected (seen old)
  pub stays : seen new (selected (seen old)) ≡ seen old (selected (seen old))
  pub text : seen new (selected (seen new)) ≡ checkpoint_file d.mark n
  pub used : OpensWith d (seen new) (compacted_size n)
  pub room : full_compacted d (begun n) ≡ None
  pub moments : StaysThere d n old new

-- The checkpoint and all draws due then would pass the limit: 42 bytes, and the others that are wanted, told up to the greatest
-- number. The files were synced, and nothing else was done.
pub record IsTooLarge (d : directories.Directory) (n : Need) (used need limit : ℕ) (old new : List Call) : Type 0 where
  pub sum : IsFullCompacted d (begun n) (switch.Full used need limit)
  pub synced : new ≡ Did Syncs ∷ old

-- the ends that it has beside a refusal
abbrev pub IsCompactionEnd : Status → Type 0
IsCompactionEnd Done = Unit {0}
IsCompactionEnd (Full used need limit) = Unit {0}
IsCompactionEnd _ = ⊥

-- the ends that the command has
abbrev pub IsCompactEnd : Status → Type 0
IsCompactEnd status = IsRefusal status ⊎ IsCompactionEnd status

-- For each status, what it means for the directory's source and the station before and after, and what holds of every run.
pub record Compacts {S P : Type 0} (source : SourceMeanings S) (station : StationMeanings P) (status : Status)
    (old_directory : S) (old : P) (new_directory : S) (new : P) : Type 0 where
  -- the journal is compacted
  pub done : status ≡ Done → Over source station old_directory old
      (λ d n. IsCompacted d n (station.calls old) (station.calls new))
  -- a compacted journal would be full
  pub full : (used need limit : ℕ) → status ≡ Full used need limit → Over source station old_directory old
      (λ d n. IsTooLarge d n used need limit (station.calls old) (station.calls new))
  -- what refused it before anything was written, want of memory among them; or the disk failed while it was done
  pub refused : IsRefusal status → Refuses source station status old_directory new_directory old new
      ⊎ ((status ≡ DiskFault) × Over source station old_directory old (λ d n. StaysThere d n (station.calls old) (station.calls new)))
  pub disk_fault : status ≡ DiskFault → Rose (station.disk_faults old) (station.disk_faults new)
  -- it has no other end
  pub ends : IsCompactEnd status
  -- nothing is said
  pub silent : source.observed → station.observed → said_by (station.calls new) ≡ said_by (station.calls old)
  -- under a directory that is accepted, where the files open, a compacted journal has room and the devices don't fail, it is
  -- done, but for memory
  pub complete : WhereOpened source station old_directory new_directory old new
      (λ d n. full_compacted d (begun n) ≡ None → EndsIn Done status)
  -- and where the files open to a fault, that is answered
  pub answered : AnswersFault source station status old_directory new_directory old new
  -- what is read, and that no count falls
  pub taken : ReadsFew source old_directory new_directory
  pub counts : NoneFalls source station old_directory new_directory old new
