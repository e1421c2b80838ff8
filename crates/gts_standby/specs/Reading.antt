-- How a feed is read, and the ends of what is read of it.
use Rattle.std.specs.Prelude.{◌≡◌, ℕ, zero, suc, ◌+◌, Bool, true, false, ◌||◌, nat_le, List, [], ◌++◌, length, drop, Some, None, Result, Ok, Err}
use Rattle.gts_standby.specs.Cited.Below.{Version, held, record_at, record_text, seal_size}
use Rattle.gts_standby.specs.declared.fed.TheConstants.{LONGEST}
use Rattle.gts_standby.specs.declared.end.FollowEnd.{FollowEnd}
use Rattle.gts_standby.specs.declared.end.FollowEnd.TheVariants.{Done, Open, Feed, Diverged, SourceFault, DiskFault, NoMemory}
use Rattle.gts_standby.specs.Ahead.{InFeed}
use Rattle.gts_standby.specs.Taking.{End, Taken, stopped, by_header, Piece, Sealed, by_piece, Reached, Short, Bad, Behind, may_be_cut}
use Rattle.gts_standby.specs.Following.{EndsAs}

-- what was read ahead and what the source has left are what is left of a feed
pub record HasRead (fed : List ℕ) (ahead : InFeed) (left : List ℕ) : Type 0 where
  pub is : fed ≡ ahead.bytes ++ left
  pub all : ahead.is_all ≡ true → left ≡ []

-- nothing was read yet
abbrev pub unread : InFeed
unread = record { bytes = []; is_all = false }

-- a whole record stands at the front, with as many bytes as its seal has
abbrev pub has_record : Version → List ℕ → Bool
has_record v bytes = elim (record_at bytes) [ None ↦ false | Some r ↦ nat_le (length (record_text r) + seal_size v) (length bytes) ]

-- The bytes that were read ahead tell the next record: there are no more, or as many as the longest has, or a whole one stands there.
abbrev pub tells_next : Version → InFeed → Bool
tells_next v ahead = ahead.is_all || (nat_le LONGEST (length ahead.bytes) || has_record v ahead.bytes)

-- what may be answered where bytes of a feed are read
abbrev pub IsReadEnd : FollowEnd → Type 0
IsReadEnd SourceFault = Unit {0}
IsReadEnd NoMemory = Unit {0}
IsReadEnd end = ⊥

-- what may be answered where a feed is looked at alone
abbrev pub IsFedEnd : FollowEnd → Type 0
IsFedEnd Done = Unit {0}
IsFedEnd (Feed at) = Unit {0}
IsFedEnd SourceFault = Unit {0}
IsFedEnd NoMemory = Unit {0}
IsFedEnd end = ⊥

-- at its end the source has nothing left
abbrev pub ReadsAll : FollowEnd → List ℕ → Type 0
ReadsAll Done left = left ≡ []
ReadsAll end left = Unit {0}

-- the feed has another record 0 than the journal
abbrev pub is_other : FollowEnd → Bool
is_other (Diverged zero own fed) = true
is_other (Diverged (suc index) own fed) = false
is_other Done = false
is_other (Open fault) = false
is_other (Feed at) = false
is_other SourceFault = false
is_other DiskFault = false
is_other NoMemory = false

-- The records were compared up to this end; where record 0 is another one, nothing of the feed was taken yet.
abbrev pub KeepsOther : {T : Type 0} → Result T FollowEnd → List ℕ → InFeed → List ℕ → Type 0
KeepsOther (Ok _) fed ahead left = Unit {0}
KeepsOther (Err end) fed ahead left = is_other end ≡ true → HasRead fed ahead left

-- a further record is another one, if any
abbrev pub IsLater : {T : Type 0} → Result T FollowEnd → Type 0
IsLater (Ok _) = Unit {0}
IsLater (Err end) = is_other end ≡ false

-- nothing is added, and the feed is answered with its end
pub record StopsAt (answer : FollowEnd) (taken : Taken) (left : List ℕ) : Type 0 where
  pub end : End
  pub is : taken ≡ stopped end
  pub ends : EndsAs answer end
  pub all : ReadsAll answer left

-- the same, unless a device failed or there was no memory
abbrev pub StopsAs : FollowEnd → Taken → List ℕ → Type 0
StopsAs SourceFault taken left = Unit {0}
StopsAs DiskFault taken left = Unit {0}
StopsAs NoMemory taken left = Unit {0}
StopsAs answer taken left = StopsAt answer taken left

-- the header was taken, or the feed ends there
abbrev pub TakesHeader : Result (Unit {0}) FollowEnd → List ℕ → List ℕ → InFeed → List ℕ → Type 0
TakesHeader (Ok _) header fed ahead left = ((next : Taken) → by_header header fed next ≡ next) × HasRead (drop 40 fed) ahead left
TakesHeader (Err end) header fed ahead left = (next : Taken) → StopsAs end (by_header header fed next) left

-- A piece of so many bytes with this seal was found at the front, and is there whole; or the feed ends there.
abbrev pub FindsPiece : Result (ℕ × List ℕ) FollowEnd → Version → ℕ → Piece → List ℕ → InFeed → List ℕ → Type 0
FindsPiece (Ok found) v at piece fed ahead left = (piece ≡ Sealed found.0 (held v found.1)) × HasRead fed ahead left
FindsPiece (Err end) v at piece fed ahead left = (next : ℕ → List ℕ → Taken) → StopsAs end (by_piece at piece next) left

-- a place in a checkpoint was reached
abbrev pub Reaches : Result ℕ FollowEnd → Reached → List ℕ → InFeed → List ℕ → Type 0
Reaches (Ok at) reached fed ahead left = (reached ≡ Behind at) × HasRead fed ahead left
Reaches (Err Done) reached fed ahead left = (reached ≡ Short) × (left ≡ [])
Reaches (Err (Feed at)) reached fed ahead left = (reached ≡ Bad) × (at ≡ 40)
Reaches (Err end) reached fed ahead left = IsReadEnd end

-- how a feed ends where no record stands with its seal at the front of what was read ahead
abbrev pub IsUnsealed : FollowEnd → Version → InFeed → ℕ → Type 0
IsUnsealed Done v ahead at = (ahead.is_all ≡ true) × (may_be_cut v ahead.bytes ≡ true)
IsUnsealed (Feed place) v ahead at = (place ≡ at) × (ahead.is_all ≡ true → may_be_cut v ahead.bytes ≡ false)
IsUnsealed end v ahead at = ⊥
