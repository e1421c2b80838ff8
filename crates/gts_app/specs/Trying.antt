-- What each end of the command `migrate check` means for what it works on: the directory, the old directory in the place of a capture,
-- and the station.
use Rattle.std.specs.Prelude.{◌≡◌, ◌⊎◌, ℕ, List, ◌∷◌, Ok, Some}
use Rattle.gts_app.specs.Cited.Below.{Breaks, Did, Ghosts as StationMeanings, OnlySyncs, Rose, Says, SourceMeanings, State, Syncs, TakesOver, changes, files_open_any, first_change, need, seen}
use Rattle.gts_directory.specs.Directory as directories
use Rattle.gts_record.specs.declared.fault.OpenFault.TheVariants as opening
use Rattle.gts_app.specs.declared.status.Status.{Status}
use Rattle.gts_app.specs.declared.status.Status.TheVariants.{Done, Directory, OldDirectory, Changed, NoJournal, OldVersion, OtherDirectory, Damaged, DiskFault, InputFault, OutputFault, NoMemory}
use Rattle.gts_app.specs.Migrate.{AreRead, UnderBoth, OpensUnder, IsLeftAlone, IsRefusedBy, IsOldRefused, IsCalm, ReadsBoth}
use Rattle.gts_app.specs.Pack.{IsTurnedAway}
use Rattle.gts_app.specs.Replay.{World}
use Rattle.gts_app.specs.Reading.{EndsIn, Stays}

-- The new directory takes over from the old one, and where the station is observed, the files open to a state under that; this holds of
-- the report of what would change if it were taken over.
abbrev pub Tried : {S P : Type 0} → SourceMeanings S → StationMeanings P → World S S P → (List ℕ → Type 0) → Type 0
Tried source station w OfText =
    UnderBoth source w (λ new old. OpensUnder station w new old (λ s. OfText (changes new old (need old s))))

-- For each status, what it means: the files were synced, and what would change was said on channel 0, and nothing else; or a front of it,
-- where saying it failed; or what refused it.
abbrev pub TriedAs : {S P : Type 0} → SourceMeanings S → StationMeanings P → Status → World S S P → World S S P → Type 0
TriedAs source station Done w v =
    Tried source station w (λ text. station.calls v.station ≡ Did (Says 0 text) ∷ Did Syncs ∷ station.calls w.station)
TriedAs source station OutputFault w v =
    Rose (station.say_faults w.station) (station.say_faults v.station)
    × Tried source station w (λ text. Breaks (Says 0 text) (Did Syncs ∷ station.calls w.station) (station.calls v.station))
TriedAs source station (Directory e) w v = IsTurnedAway source e w v
TriedAs source station (OldDirectory e) w v = IsOldRefused source w v e
TriedAs source station (Changed part row) w v =
    (v.station ≡ w.station) × UnderBoth source w (λ new old. first_change new old ≡ Some (record { part = part; row = row }))
TriedAs source station NoJournal w v = IsRefusedBy source station w v opening.NoJournal
TriedAs source station OldVersion w v = station.observed → ⊥
TriedAs source station (OtherDirectory want found) w v = IsRefusedBy source station w v (opening.NotThis want found)
TriedAs source station (Damaged file at) w v = IsRefusedBy source station w v (opening.Damaged file at)
TriedAs source station DiskFault w v = Rose (station.disk_faults w.station) (station.disk_faults v.station)
TriedAs source station InputFault w v =
    (v.station ≡ w.station)
    × (Rose (source.faults w.directory) (source.faults v.directory) ⊎ Rose (source.faults w.capture) (source.faults v.capture))
TriedAs source station NoMemory w v = IsLeftAlone station w v
TriedAs source station _ w v = ⊥

-- the ends at which something may have been said
abbrev pub MayHaveSaid : Status → Type 0
MayHaveSaid Done = Unit {0}
MayHaveSaid OutputFault = Unit {0}
MayHaveSaid _ = ⊥

-- What its end means, and what holds of every run.
pub record TriesMigration {S P : Type 0} (source : SourceMeanings S) (station : StationMeanings P) (status : Status)
    (w v : World S S P) : Type 0 where
  pub means : TriedAs source station status w v
  pub both : ReadsBoth source station status w v
  -- nothing is written; and where nothing was said, at most a sync was tried
  pub files : station.observed → (k : ℕ) → seen (station.calls v.station) k ≡ seen (station.calls w.station) k
  pub only_syncs : station.observed → (MayHaveSaid status → ⊥) → OnlySyncs (station.calls w.station) (station.calls v.station)
  -- where the files open, and no device fails, it is done, but for memory, also where `migrate` would refuse it
  pub complete : source.observed → station.observed → (new old : directories.Directory) (s : State) (used : ℕ) → AreRead source w new old
      → TakesOver new old → files_open_any old (seen (station.calls w.station)) ≡ Ok (s, used) → IsCalm source w v
      → Stays (station.disk_faults w.station) (station.disk_faults v.station)
      → Stays (station.say_faults w.station) (station.say_faults v.station) → EndsIn Done status
