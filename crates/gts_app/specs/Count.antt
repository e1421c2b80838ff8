-- What each end of the command `count` means for what it works on.
use Rattle.std.specs.Prelude.{◌≡◌, ◌⊎◌, ℕ, ◌≤◌, List, ◌∷◌, None}
use Rattle.gts_app.specs.Cited.Below.{Breaks, CountedParts, Counts, Did, Engine, Entry, Ghosts as StationMeanings, Holds, IsOrdered, IsWholeOf, OpensWith, Origin, ReplayEnd, Rose, Says, SourceMeanings, State, Step, Traffic, need, seen, state_at, table, used_at}
use Rattle.gts_replay.specs.declared.end.ReplayEnd.TheVariants as end
use Rattle.gts_app.specs.declared.status.Status.{Status}
use Rattle.gts_app.specs.declared.status.Status.TheVariants.{Done, OutputFault, NoMemory}
use Rattle.gts_app.specs.Ending.{status_of}
use Rattle.gts_app.specs.Replay.{World, world, Replays, Under, Does, history, counted, EndsWhole}
use Rattle.gts_app.specs.Opening.{WhereOpened}

-- whatever state the core of an engine holds, the numbers beside it are those of its need
abbrev pub CountsEngine : {P : Type 0} → CountedParts (Engine P) → Type 0
CountsEngine parts =
    (s : State) (h : List Entry) → Holds parts.switch.directory parts.switch.core s → IsOrdered parts.switch.directory s
    → Counts parts.switch.directory s h parts.counting

-- the end of a run behind which no table is said: it was done, and there was no memory for the table; or it was not done
abbrev pub EndsWithoutTable : ReplayEnd → Status → Type 0
EndsWithoutTable ended status = ((ended ≡ end.Done) × (status ≡ NoMemory)) ⊎ ((ended ≡ end.Done → ⊥) × (status ≡ status_of ended))

-- the table of the need that these entries since an origin come to
abbrev pub table_behind : Origin → List Entry → List ℕ
table_behind o entries = table o.directory (need o.directory (state_at o entries))

-- Where source and station tell: the capture was read through its end, and its history was done when the station was so; the files
-- open to it now; and this holds of the table of the need that it comes to.
abbrev pub Behind : {S P : Type 0} → SourceMeanings S → StationMeanings P → P → (old new : World S S P) → (List ℕ → Type 0) → Type 0
Behind source station before old new OfTable =
    Under source source station old (λ o. (steps : List Step) × IsWholeOf Traffic o.directory (source.left old.capture) steps
    × Does (counted o steps) (history o steps) None (station.calls before)
    × OpensWith o.directory (seen (station.calls new.station)) (used_at (counted o steps) (history o steps))
    × OfTable (table_behind o (history o steps)))

-- What comes behind a capture that was done: the table is said on channel 0, or saying it failed, or there was no memory for it.
abbrev pub SaysTable : {S P : Type 0} → SourceMeanings S → StationMeanings P → Status → P → (old new : World S S P) → Type 0
SaysTable source station Done before old new =
    Behind source station before old new (λ table. station.calls new.station ≡ Did (Says 0 table) ∷ station.calls before)
SaysTable source station OutputFault before old new =
    Rose (station.say_faults before) (station.say_faults new.station)
    × Behind source station before old new (λ table. Breaks (Says 0 table) (station.calls before) (station.calls new.station))
SaysTable source station NoMemory before old new = new.station ≡ before
SaysTable source station _ before old new = ⊥

-- For each status, what it means for the world before and after, and what holds of every run.
pub record CountsTraffic {S P : Type 0} (source : SourceMeanings S) (station : StationMeanings P) (status : Status)
    (old new : World S S P) : Type 0 where
  -- the capture, which has no `R` and no `C`, was run as `replay` runs one: this is how that ended, and the station then
  pub replayed : Status
  pub before : P
  pub replays : Replays Traffic source source station replayed old (world new.directory new.capture before)
  -- where it was done, the table comes behind it, after all else; any other end is that of the run
  pub table : replayed ≡ Done → SaysTable source station status before old new
  pub ended : (replayed ≡ Done → ⊥) → (status ≡ replayed) × (new.station ≡ before)
  -- so at its end the capture's history was done and said, and then the table
  pub done : status ≡ Done → SaysTable source station Done before old new
  -- a capture under a directory that is accepted, and a journal that opens under it and has room, over devices that don't fail,
  -- is done, but for memory
  pub complete : WhereOpened source station old.directory new.directory old.station new.station
      (λ d n. EndsWhole Traffic source station status old new d)
  -- no count falls
  pub station_counts : (station.say_faults old.station ≤ station.say_faults new.station)
      × (station.disk_faults old.station ≤ station.disk_faults new.station)
