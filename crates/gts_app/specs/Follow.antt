-- What each end of the command `follow` means for what it works on.
use Rattle.std.specs.Prelude.{◌≡◌, ◌⊎◌, ℕ, ◌≤◌, List, [], Ok, Err}
use Rattle.gts_app.specs.Cited.Below.{Call, DirFault, EachImageReads, EachOpens, EndsAs, FollowEnd, Ghosts as StationMeanings, IsEnd, OnlySyncs, OpenFault, Rose, SourceMeanings, State, comes_to, directory_of_bytes, files_read, need, opens, read_after, restarted, said_by, seen, state_after, written}
use Rattle.gts_standby.specs.Taking.{Taken}
use Rattle.gts_directory.specs.Directory as directories
use Rattle.gts_record.specs.declared.fault.OpenFault.TheVariants as opening
use Rattle.gts_standby.specs.declared.end.FollowEnd.TheVariants as follow
use Rattle.gts_app.specs.declared.status.Status.{Status}
use Rattle.gts_app.specs.declared.status.Status.TheVariants.{Done, Directory, NoJournal, OldVersion, OtherDirectory, Damaged, Feed, OtherFeed, DiskFault, InputFault, NoMemory}
use Rattle.gts_app.specs.Ending.{refusal}
use Rattle.gts_app.specs.Replay.{World}
use Rattle.gts_app.specs.Pack.{IsUnbegun, IsTurnedAway}
use Rattle.gts_app.specs.Reading.{ReadsFew, Stays}
use Rattle.gts_app.specs.Opening.{Under}

-- an end keeps its name
abbrev pub status_followed : FollowEnd → Status
status_followed follow.Done = Done
status_followed (follow.Open fault) = refusal fault
status_followed (follow.Feed at) = Feed at
status_followed (follow.Diverged index own fed) = OtherFeed index own fed
status_followed follow.SourceFault = InputFault
status_followed follow.DiskFault = DiskFault
status_followed follow.NoMemory = NoMemory

-- The files opened, and the bytes of the feed came to this beside them, with an end as it is answered. The journal has all that
-- they add, behind what it had or behind the checkpoint with which it begins anew, and nothing else; and a loss of power leaves all
-- of it.
pub record TakesFeed (d : directories.Directory) (old new : List Call) (fed : List ℕ) (answer : FollowEnd) : Type 0 where
  pub state : State
  pub used : ℕ
  pub last : List ℕ
  pub read : files_read written d (seen old) ≡ Ok (state, used, last)
  pub taken : Taken
  pub comes : comes_to d (seen old) fed ≡ Ok taken
  pub ends : EndsAs answer taken.end
  pub opened : opens d (seen new) ≡ Ok (need d (restarted d (state_after d state taken)))
  pub records : files_read written d (seen new) ≡ Ok (read_after d (state, used, last) taken)
  pub kept : EachImageReads d new (read_after d (state, used, last) taken)

-- the feed was taken into the journal of the directory, and this was answered
abbrev pub TakenAs : {S P : Type 0} → FollowEnd → SourceMeanings S → StationMeanings P → (old new : World S S P) → Type 0
TakenAs answer source station old new =
    Under source station old.directory
    (λ d. TakesFeed d (station.calls old.station) (station.calls new.station) (source.left old.capture) answer)

-- The files open to this fault. They are left alone, but for a sync that was tried, and nothing of the feed is read.
pub record RefusedBy {S P : Type 0} (fault : OpenFault) (source : SourceMeanings S) (station : StationMeanings P)
    (old new : World S S P) : Type 0 where
  pub opened : Under source station old.directory (λ d. opens d (seen (station.calls old.station)) ≡ Err fault)
  pub only_syncs : source.observed → station.observed → OnlySyncs (station.calls old.station) (station.calls new.station)
  pub unread : source.observed → station.observed → new.capture ≡ old.capture

-- For each status, what it means: the feed was taken to its end; or up to where it is bad, or of another history; or why it was not.
abbrev pub FollowedAs : {S P : Type 0} → SourceMeanings S → StationMeanings P → Status → (old new : World S S P) → Type 0
FollowedAs source station Done old new = TakenAs follow.Done source station old new × (source.observed → source.left new.capture ≡ [])
FollowedAs source station (Feed at) old new = TakenAs (follow.Feed at) source station old new
FollowedAs source station (OtherFeed index own fed) old new = TakenAs (follow.Diverged index own fed) source station old new
FollowedAs source station (Directory fault) old new = IsTurnedAway source fault old new
FollowedAs source station NoJournal old new = RefusedBy opening.NoJournal source station old new
FollowedAs source station OldVersion old new = RefusedBy opening.OldVersion source station old new
FollowedAs source station (OtherDirectory want found) old new = RefusedBy (opening.NotThis want found) source station old new
FollowedAs source station (Damaged file at) old new = RefusedBy (opening.Damaged file at) source station old new
FollowedAs source station DiskFault old new = Rose (station.disk_faults old.station) (station.disk_faults new.station)
FollowedAs source station InputFault old new =
    (IsUnbegun old new × Rose (source.faults old.directory) (source.faults new.directory))
    ⊎ Rose (source.faults old.capture) (source.faults new.capture)
FollowedAs source station NoMemory old new = Unit {0}
FollowedAs source station _ old new = ⊥

-- where a directory is read, the files read to this, and the feed comes to this beside them
abbrev pub ComesTo : {S P : Type 0} → SourceMeanings S → StationMeanings P → World S S P → directories.Directory → State × ℕ × List ℕ
    → Taken → Type 0
ComesTo source station old d read taken =
    (directory_of_bytes (source.left old.directory) ≡ Ok d)
    × (files_read written d (seen (station.calls old.station)) ≡ Ok read)
    × (comes_to d (seen (station.calls old.station)) (source.left old.capture) ≡ Ok taken)

-- what its end means, and what holds of every run
pub record FollowsFeed {S P : Type 0} (source : SourceMeanings S) (station : StationMeanings P) (status : Status)
    (old new : World S S P) : Type 0 where
  pub means : FollowedAs source station status old new
  -- a crash at any moment leaves the journal from before, with a first part of what the feed adds behind it
  pub moments : source.observed → station.observed → (d : directories.Directory) (read : State × ℕ × List ℕ) (taken : Taken)
      → ComesTo source station old d read taken
      → EachOpens d read taken (station.calls old.station) (station.calls new.station)
  -- where the directory has a fault, nothing was done, whatever is answered
  pub turned_away : source.observed → (fault : DirFault) → directory_of_bytes (source.left old.directory) ≡ Err fault
      → IsUnbegun old new
  -- where the files don't open, at most a sync was tried, and nothing of the feed is read
  pub unopened : source.observed → station.observed → (d : directories.Directory) (fault : OpenFault)
      → directory_of_bytes (source.left old.directory) ≡ Ok d
      → files_read written d (seen (station.calls old.station)) ≡ Err fault
      → OnlySyncs (station.calls old.station) (station.calls new.station) × (new.capture ≡ old.capture)
  -- over devices that don't fail, a feed ends as it comes to, but for memory
  pub complete : source.observed → station.observed → (d : directories.Directory) (read : State × ℕ × List ℕ) (taken : Taken)
      → ComesTo source station old d read taken
      → Stays (source.faults old.directory) (source.faults new.directory)
      → Stays (source.faults old.capture) (source.faults new.capture)
      → Stays (station.disk_faults old.station) (station.disk_faults new.station)
      → ((answer : FollowEnd) × IsEnd answer × (status ≡ status_followed answer) × EndsAs answer taken.end) ⊎ (status ≡ NoMemory)
  -- nothing is said
  pub silent : station.observed → said_by (station.calls new.station) ≡ said_by (station.calls old.station)
  -- what is read of the directory, and that no count falls
  pub directory_taken : ReadsFew source old.directory new.directory
  pub source_counts : (source.faults old.directory ≤ source.faults new.directory)
      × (source.faults old.capture ≤ source.faults new.capture)
  pub station_counts : (station.say_faults new.station ≡ station.say_faults old.station)
      × (station.disk_faults old.station ≤ station.disk_faults new.station)
