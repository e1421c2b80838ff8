-- What is said of a feed that is taken into a journal.
use Rattle.std.specs.Prelude.{◌≡◌, ◌⊎◌, ℕ, ◌+◌, ◌-◌, List, [], ◌∷◌, ◌++◌, Option, Some, None, Result, Ok, Err}
use Rattle.gts_standby.specs.Cited.Below.{Call, Did, Directory, EachSince, Files, InHand, IsImage, Need, OnlySyncs, OpenFault, OpensTo, Outside, Record, State, Syncs, after, after_records, begun, checkpoint_text, compacted_bytes, event_of_record, files_read, first_seal, held, is_checkpoint, need, opens, record_size, record_text, restarted, seal, seen, selected_bytes, written}
use Rattle.gts_record.specs.declared.fault.OpenFault.TheVariants as opening
use Rattle.gts_standby.specs.declared.end.FollowEnd.{FollowEnd}
use Rattle.gts_standby.specs.declared.end.FollowEnd.TheVariants.{Done, Open, Feed, Diverged, SourceFault, DiskFault, NoMemory}
use Rattle.gts_standby.specs.Taking.{End, Ends, Breaks, Parts, Taken, seals_behind, taken}

-- a fault of the journal's opening, as a feed is answered with it
abbrev pub open_end : OpenFault → FollowEnd
open_end opening.DiskFault = DiskFault
open_end opening.NoMemory = NoMemory
open_end fault = Open fault

-- the seals of the records of a file, in order
abbrev pub own_seals : Directory → List ℕ → List (List ℕ)
own_seals d bytes = seals_behind written (first_seal written d.mark) bytes (is_checkpoint bytes)

-- what a feed comes to where the files open, or the fault to which they open
abbrev pub comes_to : Directory → Files → List ℕ → Result Taken OpenFault
comes_to d files fed = elim (files_read written d files) [
  | Err fault ↦ Err fault
  | Ok read ↦ Ok (taken written d read.0 (read.1 - 1) read.2 (own_seals d (selected_bytes files)) fed)
]

-- A feed is answered with this end. A fault of a device, and want of memory, aren't of the feed.
abbrev pub EndsAs : FollowEnd → End → Type 0
EndsAs Done Ends = Unit {0}
EndsAs (Feed at) (Breaks place) = at ≡ place
EndsAs (Diverged index own fed) (Parts number its other) = (index ≡ number) × (held written own ≡ its) × (held written fed ≡ other)
EndsAs SourceFault end = Unit {0}
EndsAs DiskFault end = Unit {0}
EndsAs NoMemory end = Unit {0}
EndsAs answer end = ⊥

-- It is answered with the end of what it comes to, or with the fault to which the files open.
abbrev pub Answers : FollowEnd → Result Taken OpenFault → Type 0
Answers (Open fault) come = come ≡ Err fault
Answers SourceFault come = Unit {0}
Answers DiskFault come = Unit {0}
Answers NoMemory come = Unit {0}
Answers answer (Ok taken) = EndsAs answer taken.end
Answers answer (Err fault) = ⊥

-- Where the journal is refused, at most a sync was tried, and this holds.
abbrev pub LeavesAlone : FollowEnd → List Call → List Call → Type 0 → Type 0
LeavesAlone (Open fault) old new unread = OnlySyncs old new × unread
LeavesAlone answer old new unread = Unit {0}

-- Where the files don't open, at most a sync was tried, and this holds.
abbrev pub LeavesUnopened : Directory → List Call → List Call → Type 0 → Type 0
LeavesUnopened d old new unread = (fault : OpenFault) → files_read written d (seen old) ≡ Err fault → OnlySyncs old new × unread

-- an answer that tells the end of a feed
abbrev pub IsEnd : FollowEnd → Type 0
IsEnd Done = Unit {0}
IsEnd (Feed at) = Unit {0}
IsEnd (Diverged index own fed) = Unit {0}
IsEnd answer = ⊥

-- the state with which a journal goes on: its own one, or that of the checkpoint with which it begins
abbrev pub start_of : State → Option Need → State
start_of s None = s
start_of s (Some n) = begun n

-- the state of a journal in which all is that is added
abbrev pub state_after : Directory → State → Taken → State
state_after d s taken = after_records d (start_of s taken.begins) taken.records

-- what files read to behind records that were added to a journal: the state, the place behind the closed gate, and the last seal
abbrev pub read_behind : Directory → State × ℕ × List ℕ → List Record → State × ℕ × List ℕ
read_behind d read [] = read
read_behind d read (r ∷ rs) =
    read_behind d (after d read.0 (event_of_record r), read.1 + record_size written r, seal written read.2 (record_text r)) rs

-- what files read to that begin anew with the checkpoint of this need
abbrev pub read_anew : Directory → Need → State × ℕ × List ℕ
read_anew d n = (begun n, compacted_bytes written n, seal written (first_seal written d.mark) (checkpoint_text n))

-- what files read to that begin anew with a checkpoint, or don't
abbrev pub read_begun : Directory → State × ℕ × List ℕ → Option Need → State × ℕ × List ℕ
read_begun d read None = read
read_begun d read (Some n) = read_anew d n

-- what files that read to this read to behind all that is added
abbrev pub read_after : Directory → State × ℕ × List ℕ → Taken → State × ℕ × List ℕ
read_after d read taken = read_behind d (read_begun d read taken.begins) taken.records

-- what the files of a journal read to that stands for a state
abbrev pub read_at : State → InHand → State × ℕ × List ℕ
read_at s j = (s, j.gate + 1, j.seal)

-- nothing is said, and the files read to the first of two, or to the second
abbrev pub ReadsToOneOf : Directory → State × ℕ × List ℕ → State × ℕ × List ℕ → Files → Outside → Type 0
ReadsToOneOf d one other files outside =
    (outside ≡ []) × ((files_read written d files ≡ Ok one) ⊎ (files_read written d files ≡ Ok other))

-- Nothing is said. The files read to what they read to before, or to that and a first part of what is added, its seals chained over
-- the last one, and no more. So they open to the state from before, or to that with this first part.
pub data OpensWithin (d : Directory) (read : State × ℕ × List ℕ) (taken : Taken) (files : Files) (outside : Outside) : Type 0 where
  AsBefore : outside ≡ [] → OpensTo d read.0 files → files_read written d files ≡ Ok read → OpensWithin d read taken files outside
  WithFront : (front back : List Record) → taken.records ≡ front ++ back → outside ≡ []
      → OpensTo d (after_records d (start_of read.0 taken.begins) front) files
      → files_read written d files ≡ Ok (read_after d read (record taken { records = front }))
      → OpensWithin d read taken files outside

-- From the sync of the opening on each moment leaves so much; or no more than that sync was tried.
abbrev pub EachOpens : Directory → State × ℕ × List ℕ → Taken → List Call → List Call → Type 0
EachOpens d read taken old new = OnlySyncs old new ⊎ EachSince (Did Syncs ∷ old) new (OpensWithin d read taken)

-- Where the files open, and a feed comes to something beside them: at each end of the feed they read to what they read to before and
-- to all that it adds, its seals chained over the last one, and nothing else.
abbrev pub ReadsAllOf : FollowEnd → Directory → List Call → List Call → List ℕ → Type 0
ReadsAllOf answer d old new fed =
    (read : State × ℕ × List ℕ) (taken : Taken) → files_read written d (seen old) ≡ Ok read → comes_to d (seen old) fed ≡ Ok taken
    → IsEnd answer → files_read written d (seen new) ≡ Ok (read_after d read taken)

-- so they open to all that it adds
abbrev pub HasAll : FollowEnd → Directory → List Call → List Call → List ℕ → Type 0
HasAll answer d old new fed =
    (s : State) (used : ℕ) (last : List ℕ) (taken : Taken) → files_read written d (seen old) ≡ Ok (s, used, last)
    → comes_to d (seen old) fed ≡ Ok taken → IsEnd answer → opens d (seen new) ≡ Ok (need d (restarted d (state_after d s taken)))

-- whatever a loss of power leaves now reads to this
abbrev pub EachImageReads : Directory → List Call → State × ℕ × List ℕ → Type 0
EachImageReads d calls read = (files : Files) → IsImage calls files → files_read written d files ≡ Ok read

-- and all that it adds is on the disk
abbrev pub KeepsAllOf : FollowEnd → Directory → List Call → List Call → List ℕ → Type 0
KeepsAllOf answer d old new fed =
    (read : State × ℕ × List ℕ) (taken : Taken) → files_read written d (seen old) ≡ Ok read → comes_to d (seen old) fed ≡ Ok taken
    → IsEnd answer → EachImageReads d new (read_after d read taken)

-- At each end of the feed the journal has all that the feed adds, and keeps it: it is what it was, with that behind it.
pub record AddsAllOf (answer : FollowEnd) (d : Directory) (old new : List Call) (fed : List ℕ) : Type 0 where
  pub opened : HasAll answer d old new fed
  pub reads : ReadsAllOf answer d old new fed
  pub kept : KeepsAllOf answer d old new fed

-- so each crash leaves files that read to what they read to before, and to a first part of it
abbrev pub LeavesFronts : Directory → List Call → List Call → List ℕ → Type 0
LeavesFronts d old new fed =
    (read : State × ℕ × List ℕ) (taken : Taken) → files_read written d (seen old) ≡ Ok read → comes_to d (seen old) fed ≡ Ok taken
    → EachOpens d read taken old new
