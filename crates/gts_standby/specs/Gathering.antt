-- What it is that records of a feed are gathered behind a journal, and brought into it behind one gate.
use Rattle.std.specs.Prelude.{◌≡◌, ◌⊎◌, ℕ, ◌+◌, ◌-◌, ◌≤◌, true, List, [], ◌∷◌, ◌++◌, length, drop, if◌then◌else◌, Some, None, Result, Ok, Err}
use Rattle.gts_standby.specs.Cited.Below.{AreNext, Call, Core, Directory, EachSince, FitsRecord, Follows, Gathers, IsKept, Record, StandsFor, State, admits, after_records, held, record_behind, record_size, record_text, seal, sealed_at, written}
use Rattle.gts_standby.specs.declared.end.FollowEnd.{FollowEnd}
use Rattle.gts_standby.specs.declared.end.FollowEnd.TheVariants.{DiskFault, NoMemory, SourceFault}
use Rattle.gts_standby.specs.declared.gathering.Gathering.{Gathering}
use Rattle.gts_standby.specs.Ahead.{InFeed}
use Rattle.gts_standby.specs.Taking.{Ends, Breaks, stopped, may_be_cut}
use Rattle.gts_standby.specs.Following.{IsEnd, ReadsToOneOf, read_at}
use Rattle.gts_standby.specs.Reading.{HasRead, StopsAs}

-- the place of the gate behind the records that were gathered
abbrev pub gate_behind : Gathering → ℕ
gate_behind g = g.journal.gate + (length g.batch.text - 1)

-- The journal is at its end, which is that of this state, where the station is observed; and these records were gathered, which may stand
-- there, one behind the other.
pub record StandsBehind (observed : Type 0) (d : Directory) (s : State) (rs : List Record) (calls : List Call)
    (g : Gathering) : Type 0 where
  pub next : AreNext d s g.journal rs g.batch
  pub seal_is : held written g.seal ≡ g.batch.seal
  pub current : g.journal.version ≡ written
  pub ended : g.journal.ended ≡ true
  pub room : gate_behind g + 1 ≤ d.limit
  pub stands : observed → StandsFor d s calls g.journal

-- so it is of a state and of records
pub record IsGathered (observed : Type 0) (d : Directory) (calls : List Call) (g : Gathering) : Type 0 where
  pub settled : State
  pub records : List Record
  pub stands : StandsBehind observed d settled records calls g

-- and the core holds the state behind the records
pub record HoldsBehind (observed : Type 0) (d : Directory) (s : State) (rs : List Record) (calls : List Call) (core : Core) (g : Gathering)
    : Type 0 where
  pub stands : StandsBehind observed d s rs calls g
  pub kept : IsKept written d core (gate_behind g) (after_records d s rs)

-- so it is of a state and of records
pub record IsGathering (observed : Type 0) (d : Directory) (calls : List Call) (core : Core) (g : Gathering) : Type 0 where
  pub settled : State
  pub records : List Record
  pub holds : HoldsBehind observed d settled records calls core g

-- the core holds a state, and another record may be judged behind what was gathered
pub record CanGather (d : Directory) (core : Core) (g : Gathering) : Type 0 where
  pub state : State
  pub kept : IsKept written d core (gate_behind g) state
  pub seal_is : held written g.seal ≡ g.batch.seal
  pub current : g.journal.version ≡ written
  pub version : g.batch.version ≡ written

-- ---- a record is gathered

-- One record more was gathered, which may stand behind the others in whatever state the core held; it then holds the state behind
-- that. The feed goes on behind the record.
pub record HasGatheredOne (d : Directory) (core : Core) (g : Gathering) (ahead : InFeed) (size : ℕ)
    (core_now : Core) (next : Gathering) (ahead_now : InFeed) : Type 0 where
  pub r : Record
  pub fits : FitsRecord r
  pub size_is : size ≡ record_size written r - 1
  pub admitted : (s : State) → IsKept written d core (gate_behind g) s → admits written d s (gate_behind g + 1) r ≡ true
  pub follows : Follows d core core_now r
  pub journal_is : next.journal ≡ g.journal
  pub version : next.batch.version ≡ g.batch.version
  pub gathers : (before : List ℕ) (rs : List Record) → Gathers before rs g.batch → Gathers before (rs ++ r ∷ []) next.batch
  pub long : length next.batch.text ≡ length g.batch.text + record_size written r
  pub seal_is : held written next.seal ≡ seal written g.batch.seal (record_text r)
  pub read : (fed left : List ℕ) → HasRead fed ahead left
      → (sealed_at written g.batch.seal fed ≡ Some r) × HasRead (drop size fed) ahead_now left

-- the feed ends there, and no record was gathered
abbrev pub GathersNone : FollowEnd → Directory → Core → Gathering → ℕ → InFeed → Type 0
GathersNone answer d core g at ahead =
    (s : State) (fed left : List ℕ) → IsKept written d core (gate_behind g) s → HasRead fed ahead left → IsEnd answer
    → (record_behind written d g.batch.seal s (gate_behind g) fed ≡ None)
    × StopsAs answer (if may_be_cut written fed then stopped Ends else stopped (Breaks at)) left

-- one record more was to be gathered
abbrev pub GathersNext : Result ℕ FollowEnd → Directory → Core → Gathering → ℕ → InFeed → Core → Gathering → InFeed → Type 0
GathersNext (Ok size) d core g at ahead core_now next ahead_now = HasGatheredOne d core g ahead size core_now next ahead_now
GathersNext (Err answer) d core g at ahead core_now next ahead_now = GathersNone answer d core g at ahead

-- ---- what was gathered is brought into the journal

-- nothing is gathered: a batch of no record is its last gate
abbrev pub IsSettled : Gathering → Type 0
IsSettled g = length g.batch.text ≡ 1

-- a device failed, or there was no memory, before the feed has ended
abbrev pub IsReadyEnd : FollowEnd → Type 0
IsReadyEnd DiskFault = Unit {0}
IsReadyEnd SourceFault = Unit {0}
IsReadyEnd NoMemory = Unit {0}
IsReadyEnd end = ⊥

-- The journal is at its end, which is that of the state behind the records; nothing is gathered.
pub record HasBrought (observed : Type 0) (d : Directory) (s : State) (rs : List Record) (g : Gathering) (new : List Call)
    (next : Gathering)
    : Type 0 where
  pub stands : StandsBehind observed d (after_records d s rs) [] new next
  pub gate_is : gate_behind next ≡ gate_behind g
  pub seal_is : next.batch.seal ≡ g.batch.seal

-- so it is of whatever state the journal had come to, and whatever records were gathered
abbrev pub Brings : (observed : Type 0) → Directory → List Call → Gathering → List Call → Gathering → Type 0
Brings observed d old g new next = (s : State) (rs : List Record) → StandsBehind observed d s rs old g
    → HasBrought observed d s rs g new next

-- nothing was done, or so it is
abbrev pub MayHaveBrought : (observed : Type 0) → Directory → List Call → Gathering → List Call → Gathering → Type 0
MayHaveBrought observed d old g new next = ((new ≡ old) × (next ≡ g)) ⊎ Brings observed d old g new next

-- what the files read to with the records that were gathered, which lead to this state
abbrev pub read_with : State → Gathering → State × ℕ × List ℕ
read_with t g = (t, gate_behind g + 1, g.batch.seal)

-- a crash since leaves files that read to what the journal had come to, or to that with all of the records
abbrev pub MayBring : (observed : Type 0) → Directory → List Call → Gathering → List Call → Type 0
MayBring observed d old g new =
    (s : State) (rs : List Record) → StandsBehind observed d s rs old g
    → EachSince old new (ReadsToOneOf d (read_at s g.journal) (read_with (after_records d s rs) g))

-- it was answered with this end once all of that was brought, or with a fault of the disk
abbrev pub IsFinished : FollowEnd → FollowEnd → (observed : Type 0) → Directory → List Call → Gathering → List Call → Gathering → Type 0
IsFinished answer end observed d old g new next = ((answer ≡ end) × Brings observed d old g new next) ⊎ (answer ≡ DiskFault)
