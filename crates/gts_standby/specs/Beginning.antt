-- What it is that a journal begins with the checkpoint of a feed: one without records, or one that begins anew.
use Rattle.std.specs.Prelude.{◌≡◌, ℕ, ◌+◌, List, length, drop, Some, Result, Ok, Err}
use Rattle.gts_standby.specs.Cited.Below.{Call, Core, Directory, EachSince, InHand, Need, StandsFor, State, begun, checkpoint_text, compacted_bytes, first_seal, need_in, said_by, seal, written}
use Rattle.gts_standby.specs.declared.end.FollowEnd.{FollowEnd}
use Rattle.gts_standby.specs.declared.end.FollowEnd.TheVariants.{DiskFault, NoMemory}
use Rattle.gts_standby.specs.Ahead.{InFeed}
use Rattle.gts_standby.specs.Taking.{Taken, Sealed, checkpoint_piece, begin_with, begin_first, add_all}
use Rattle.gts_standby.specs.Following.{IsEnd, ReadsToOneOf, read_anew, read_at}
use Rattle.gts_standby.specs.Reading.{HasRead, StopsAs}
use Rattle.gts_standby.specs.Adding.{HoldsAt}

-- what may be answered where a checkpoint is written
abbrev pub IsPutEnd : FollowEnd → Type 0
IsPutEnd DiskFault = Unit {0}
IsPutEnd NoMemory = Unit {0}
IsPutEnd end = ⊥

-- a crash since leaves the journal as it was, or as it begins with the checkpoint of this need
abbrev pub MayBegin : Directory → Need → List Call → InHand → List Call → Type 0
MayBegin d n old j new = (s : State) → StandsFor d s old j → EachSince old new (ReadsToOneOf d (read_at s j) (read_anew d n))

-- The journal begins with the checkpoint that stands at the front of the feed's records, and its seal; the feed goes on behind them.
pub record HasBegun (observed : Type 0) (d : Directory) (from : State × ℕ × List ℕ) (fed : List ℕ) (old : List Call) (at : ℕ)
    (new : List Call) (core : Core) (next : InHand) (ahead : InFeed) (left : List ℕ) : Type 0 where
  pub n : Need
  pub size : ℕ
  pub fed_seal : List ℕ
  pub piece : checkpoint_piece written d.limit (first_seal written d.mark) fed ≡ Sealed size fed_seal
  pub begins : begin_with written d (first_seal written d.mark) size fed (need_in fed)
      ≡ record (add_all written d (length fed) next.seal (begun n) next.gate (40 + size) (drop size fed)) { begins = Some n }
  pub place : at ≡ 40 + size
  pub gate_is : next.gate + 1 ≡ compacted_bytes written n
  pub seal_is : next.seal ≡ seal written (first_seal written d.mark) (checkpoint_text n)
  pub holds : HoldsAt observed d (begun n) new core next
  pub read : HasRead (drop size fed) ahead left
  pub silent : said_by new ≡ said_by old
  pub moments : EachSince old new (ReadsToOneOf d from (read_anew d n))

-- what a feed comes to where the journal begins with its checkpoint
abbrev pub begun_taken : Directory → List ℕ → Taken
begun_taken d fed = begin_first written d (first_seal written d.mark) fed

-- The feed ends there; or the disk failed, or there was no memory, while the checkpoint was taken.
pub data EndsBegin (answer : FollowEnd) (d : Directory) (from : State × ℕ × List ℕ) (fed : List ℕ) (old new : List Call)
    (left : List ℕ) : Type 0 where
  BeforeIt : new ≡ old → StopsAs answer (begun_taken d fed) left → EndsBegin answer d from fed old new left
  WithinIt : (n : Need) → (begun_taken d fed).begins ≡ Some n → EachSince old new (ReadsToOneOf d from (read_anew d n))
      → (IsEnd answer → ⊥) → EndsBegin answer d from fed old new left

-- so it is of files that read to this
abbrev pub Begins : Result (Core × ℕ) FollowEnd → (observed : Type 0) → Directory → State × ℕ × List ℕ → List ℕ → List Call
    → List Call → InHand → InFeed → List ℕ → Type 0
Begins (Ok found) observed d from fed old new next ahead left = HasBegun observed d from fed old found.1 new found.0 next ahead left
Begins (Err answer) observed d from fed old new next ahead left = EndsBegin answer d from fed old new left

-- so it is of whatever state the journal stands for, and whatever the feed has left
abbrev pub BeginsAny : Result (Core × ℕ) FollowEnd → (observed : Type 0) → Directory → List Call → Core → InHand → InFeed → List ℕ
    → List Call → InHand → InFeed → List ℕ → Type 0
BeginsAny result observed d old core j ahead left new next ahead_now left_now =
    (s : State) (fed : List ℕ) → HoldsAt observed d s old core j → HasRead fed ahead left
    → Begins result observed d (read_at s j) fed old new next ahead_now left_now
