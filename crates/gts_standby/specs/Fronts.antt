-- What a front of a feed adds, beside what the feed adds.
use Rattle.std.specs.Prelude.{◌≡◌, ℕ, true, false, List, [], ◌∷◌, ◌++◌, drop, nat_eq, None, Ok}
use Rattle.gts_standby.specs.Cited.Below.{Directory, Files, Record, State, after_records, empty, files_read, first_seal, is_checkpoint, need, need_in, pointwise, selected_bytes, written}
use Rattle.gts_standby.specs.Feed.{feed}
use Rattle.gts_standby.specs.Taking.{Taken, Ends, is_behind}
use Rattle.gts_standby.specs.Following.{own_seals, read_after, comes_to}

-- Nothing is added; or the journal begins as with the whole feed, and a first part of its records is added.
pub data AddsFront (part whole : Taken) : Type 0 where
  AddsNothing : part.begins ≡ None → part.records ≡ [] → AddsFront part whole
  AddsPart : (rest : List Record) → part.begins ≡ whole.begins → whole.records ≡ part.records ++ rest → AddsFront part whole

-- the files have no record in the file that is selected
abbrev pub HasNoRecord : Directory → Files → Type 0
HasNoRecord d files = own_seals d (selected_bytes files) ≡ []

-- The journal in these files has no checkpoint; it opens to this state, and this is its feed.
pub record IsPlainFeed (d : Directory) (files : Files) (s : State) (fed : List ℕ) : Type 0 where
  pub used : ℕ
  pub last : List ℕ
  pub read : files_read written d files ≡ Ok (s, used, last)
  pub plain : is_checkpoint (selected_bytes files) ≡ false
  pub is : feed written d.mark (selected_bytes files) ≡ fed

-- the state to which a standby without records comes by what a feed adds
abbrev pub state_of : Directory → Taken → State
state_of d part = after_records d (empty d) part.records

-- further records lead from the first state to the other one
abbrev pub LeadsTo : Directory → State → State → Type 0
LeadsTo d t s = (rest : List Record) × (s ≡ after_records d t rest)

-- The journal in these files reads to this state, end and last seal, and this is its feed.
pub record IsFeedOf (d : Directory) (files : Files) (read : State × ℕ × List ℕ) (fed : List ℕ) : Type 0 where
  pub reads : files_read written d files ≡ Ok read
  pub is : feed written d.mark (selected_bytes files) ≡ fed

-- A feed is taken to its end, and brings a journal from what it reads to on to this.
pub record BringsTo (d : Directory) (from : State × ℕ × List ℕ) (what : Taken) (read : State × ℕ × List ℕ) : Type 0 where
  pub end : what.end ≡ Ends
  pub reads : read_after d from what ≡ read

-- whatever a feed comes to beside the journal in these files, it brings that from what it reads to on to this
abbrev pub FeedBrings : Directory → Files → List ℕ → State × ℕ × List ℕ → State × ℕ × List ℕ → Type 0
FeedBrings d own fed from read = (whole : Taken) → comes_to d own fed ≡ Ok whole → BringsTo d from whole read

-- what a journal without records reads to
abbrev pub nothing_read : Directory → State × ℕ × List ℕ
nothing_read d = (empty d, 41, first_seal written d.mark)

-- The journal in the first files reads to this, and has another record 0 than the one in the other files, which begins with a
-- checkpoint that isn't behind it.
pub record IsOvertaken (d : Directory) (own files : Files) (from : State × ℕ × List ℕ) : Type 0 where
  pub reads : files_read written d own ≡ Ok from
  pub first : List ℕ
  pub more : List (List ℕ)
  pub seals : own_seals d (selected_bytes own) ≡ first ∷ more
  pub packed : is_checkpoint (selected_bytes files) ≡ true
  pub other : (fed : List ℕ) (further : List (List ℕ)) → own_seals d (selected_bytes files) ≡ fed ∷ further
      → pointwise nat_eq first fed ≡ false
  pub further : is_behind (need_in (drop 41 (selected_bytes files))) (need d from.0) ≡ false

-- The journal in these files has records, whatever the first of them is; it reads to this, and this is its feed.
pub record HasPart (d : Directory) (own : Files) (from : State × ℕ × List ℕ) (fed : List ℕ) : Type 0 where
  pub is : IsFeedOf d own from fed
  pub first : List ℕ
  pub more : List (List ℕ)
  pub seals : own_seals d (selected_bytes own) ≡ first ∷ more
