-- Records that are appended behind one gate, and what that leaves of the files.
use Rattle.std.specs.Prelude.{◌≡◌, ◌≢◌, ◌⊎◌, false, ℕ, ◌+◌, ◌-◌, ◌≤◌, List, [], ◌∷◌, ◌++◌, length, take}
use Rattle.gts_journal.specs.Cited.Below.{AreAdmitted, Call, Directory, EachSince, Files, IsSynced, MayStand, Outside, Record, State, Version, after_records, chain_text, closed_gate, last_seal, open_gate, seen, texts_of, written}
use Rattle.gts_journal.specs.Law.{OpensTo}
use Rattle.gts_journal.specs.Hand.{InHand}
use Rattle.gts_journal.specs.Standing.{EndsAt, StandsOn, file_of, front_of}

-- Records, as they are to stand in the place of a closed gate, with a closed gate behind them; their version, and the seal of the
-- last of them.
pub record Gathered : Type 0 where
  pub version : Version
  pub text : List ℕ
  pub seal : List ℕ

-- with no record yet
abbrev pub no_records : InHand → Gathered
no_records j = record { version = j.version; text = closed_gate ∷ []; seal = j.seal }

-- these records were gathered, to stand behind this seal
pub record Gathers (before : List ℕ) (rs : List Record) (b : Gathered) : Type 0 where
  pub text : b.text ≡ chain_text b.version before (texts_of rs) ++ closed_gate ∷ []
  pub seal : b.seal ≡ last_seal b.version before (texts_of rs)

-- an open gate, what stands behind it, and a closed gate
abbrev pub IsBlock : List ℕ → Type 0
IsBlock text = (behind : List ℕ) × (text ≡ open_gate ∷ (behind ++ closed_gate ∷ []))

-- without the closed gate at the end
abbrev pub opened_part : List ℕ → List ℕ
opened_part text = take (length text - 1) text

-- a file with a block in the place of the journal's closed gate, and anything behind it
abbrev pub HasBlock : List Call → InHand → List ℕ → List ℕ → Type 0
HasBlock calls j text file = (behind : List ℕ) × (file ≡ front_of calls j ++ text ++ behind)

-- a file that is no longer than it was, or than so many bytes behind a block in the place of the journal's gate
abbrev pub ReachesWithin : (step : ℕ) → List Call → InHand → (text file : List ℕ) → Type 0
ReachesWithin step calls j text file =
    (most : ℕ) → length (file_of calls j) ≤ most → j.gate + length text + step ≤ most → length file ≤ most

-- the journal behind a block that was appended, whose last seal is this one
abbrev pub beyond_block : InHand → List ℕ → List ℕ → InHand
beyond_block j text last = record j { gate = j.gate + (length text - 1); seal = last; ahead = []; is_all = false }

-- what appending a block leaves: it stands there, and the journal at its closed gate
pub record HasAppendedBlock (old : List Call) (j : InHand) (b : Gathered) (new : List Call) (next : InHand) : Type 0 where
  pub text : HasBlock old j b.text (file_of new next)
  pub stands : StandsOn new next
  pub place : next ≡ beyond_block j b.text b.seal

-- Nothing is said; the selector is as it was, and so is each other file that was synced; and the journal ends where it ended, or has
-- all records of the block and then ends.
pub record LeavesAllOrNone (calls : List Call) (j : InHand) (text : List ℕ) (files : Files) (outside : Outside) : Type 0 where
  pub silent : outside ≡ []
  pub selector : files 2 ≡ seen calls 2
  pub others : (k : ℕ) → k ≢ j.file → IsSynced calls k → files k ≡ seen calls k
  pub journal : EndsAt (front_of calls j) (files j.file) ⊎ EndsAt (front_of calls j ++ opened_part text) (files j.file)

-- records were gathered that may stand at the journal's gate, one behind the other
pub record AreNext (d : Directory) (s : State) (j : InHand) (rs : List Record) (b : Gathered) : Type 0 where
  pub version : b.version ≡ j.version
  pub gathers : Gathers j.seal rs b
  pub admitted : AreAdmitted written d s j.gate rs

-- one record more was gathered, which may stand behind those of a batch
pub record GathersMore (d : Directory) (s : State) (j : InHand) (rs : List Record) (b : Gathered) (r : Record) (next : Gathered)
    : Type 0 where
  pub version : next.version ≡ b.version
  pub gathers : Gathers j.seal (rs ++ r ∷ []) next
  pub may : MayStand written d (after_records d s rs) (j.gate + length b.text) r

-- nothing is said, and the files open to the first of two states, or to the second
abbrev pub OpensToOneOf : Directory → State → State → Files → Outside → Type 0
OpensToOneOf d s t files outside = (outside ≡ []) × (OpensTo d s files ⊎ OpensTo d t files)

-- calls that leave all records of a batch or none leave, at each moment, what opens to the state before them, or to that with all
abbrev pub AddsAllOrNone : Directory → State → List Call → List Call → InHand → List Record → Gathered → Type 0
AddsAllOrNone d s old new j rs b =
    EachSince old new (LeavesAllOrNone old j b.text) → EachSince old new (OpensToOneOf d s (after_records d s rs))
