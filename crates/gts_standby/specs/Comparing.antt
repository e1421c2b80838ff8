-- What it is that the records of a journal are compared with those of a feed.
use Rattle.std.specs.Prelude.{◌≡◌, ℕ, ◌+◌, ◌≤◌, ◌<◌, List, ◌∷◌, length, drop, Result, Ok, Err}
use Rattle.gts_standby.specs.Cited.Below.{Call, Directory, InHand, StandsFor, State, Version, file_of, first_seal, is_checkpoint, written}
use Rattle.gts_standby.specs.declared.end.FollowEnd.{FollowEnd}
use Rattle.gts_standby.specs.declared.end.FollowEnd.TheVariants.{Open, DiskFault, NoMemory}
use Rattle.gts_standby.specs.Ahead.{InFeed}
use Rattle.gts_standby.specs.Shipping.{Reaches, IsAtFirst}
use Rattle.gts_standby.specs.Taking.{Taken, seals_at, seals_behind, compare_first, compare_all}
use Rattle.gts_standby.specs.Following.{own_seals}
use Rattle.gts_standby.specs.Reading.{HasRead, StopsAs}

-- From a gate of these bytes on, where this seal stands before it, the records come to a closed gate at this place; and these are
-- their seals.
pub record Leads (v : Version) (d : Directory) (file : ℕ) (before : List ℕ) (gate : ℕ) (bytes : List ℕ)
    (end : ℕ) (left : List (List ℕ)) : Type 0 where
  pub sent : List ℕ
  pub reaches : Reaches v d file before gate bytes end sent
  pub n : ℕ
  pub enough : length bytes ≤ n + gate
  pub left_is : left ≡ seals_at v n before (drop gate bytes)

-- so it is for a journal that stands at a gate
abbrev pub IsAtSeals : Directory → List Call → InHand → ℕ → List (List ℕ) → Type 0
IsAtSeals d calls j end left = Leads j.version d j.file j.seal j.gate (file_of calls j) end left

-- the journal stands behind the first of these records
pub record IsBehindOne (d : Directory) (calls : List Call) (next : InHand) (end : ℕ) (left : List (List ℕ)) : Type 0 where
  pub rest : List (List ℕ)
  pub is : left ≡ next.seal ∷ rest
  pub at : IsAtSeals d calls next end rest

-- a fault that isn't of the journal's bytes
abbrev pub IsDevice : FollowEnd → Type 0
IsDevice DiskFault = Unit {0}
IsDevice NoMemory = Unit {0}
IsDevice end = ⊥

-- what may be answered where the journal is read
abbrev pub IsOwnEnd : FollowEnd → Type 0
IsOwnEnd (Open fault) = Unit {0}
IsOwnEnd DiskFault = Unit {0}
IsOwnEnd NoMemory = Unit {0}
IsOwnEnd end = ⊥

-- one record more was to be read
abbrev pub OwnGoesOn : {T : Type 0} → Result T FollowEnd → Directory → List Call → InHand → ℕ → List (List ℕ) → Type 0
OwnGoesOn (Ok _) d calls next end left = IsBehindOne d calls next end left
OwnGoesOn (Err e) d calls next end left = IsDevice e

-- A record has the seal of the feed's: the comparison goes on behind both.
pub record HasCompared (d : Directory) (left : List (List ℕ)) (v : Version) (before : List ℕ) (index at size : ℕ) (fed : List ℕ)
    (calls : List Call) (next : InHand) (end : ℕ) (ahead : InFeed) (unread : List ℕ) : Type 0 where
  pub rest : List (List ℕ)
  pub same : (behind : ℕ → List ℕ → Taken)
      → compare_all v behind left before index at fed ≡ compare_all v behind rest next.seal (index + 1) (at + size) (drop size fed)
  pub on : IsAtSeals d calls next end rest
  pub read : HasRead (drop size fed) ahead unread

abbrev pub ComparesOne : Result ℕ FollowEnd → Directory → List (List ℕ) → Version → List ℕ → ℕ → ℕ → List ℕ → List Call → InHand → ℕ
    → InFeed → List ℕ → Type 0
ComparesOne (Ok size) d left v before index at fed calls next end ahead unread =
    HasCompared d left v before index at size fed calls next end ahead unread
ComparesOne (Err e) d left v before index at fed calls next end ahead unread =
    (behind : ℕ → List ℕ → Taken) → StopsAs e (compare_all v behind left before index at fed) unread

-- the seals of the file in which a journal stands at its first gate
abbrev pub seals_here : Directory → List Call → InHand → List (List ℕ)
seals_here d calls j = seals_behind j.version (first_seal j.version d.mark) (file_of calls j) (is_checkpoint (file_of calls j))

-- the same of the first record
pub record HasComparedFirst (d : Directory) (old : List Call) (j : InHand) (size : ℕ) (fed : List ℕ)
    (calls : List Call) (next : InHand) (end : ℕ) (ahead : InFeed) (unread : List ℕ) : Type 0 where
  pub rest : List (List ℕ)
  pub same : (behind : ℕ → List ℕ → Taken) → compare_first j.version d.limit behind (seals_here d old j) j.seal fed
      ≡ compare_all j.version behind rest next.seal 1 (40 + size) (drop size fed)
  pub on : IsAtSeals d calls next end rest
  pub read : HasRead (drop size fed) ahead unread

abbrev pub ComparesFirst : Result ℕ FollowEnd → Directory → List Call → InHand → List ℕ → List Call → InHand → ℕ → InFeed → List ℕ → Type 0
ComparesFirst (Ok size) d old j fed calls next end ahead unread = HasComparedFirst d old j size fed calls next end ahead unread
ComparesFirst (Err e) d old j fed calls next end ahead unread =
    (behind : ℕ → List ℕ → Taken) → StopsAs e (compare_first j.version d.limit behind (seals_here d old j) j.seal fed) unread

-- so it is of whatever the journal and the feed have there
abbrev pub ComparesFirstOfAny : Result ℕ FollowEnd → Directory → List Call → InHand → InFeed → List ℕ → List Call → InHand → InFeed
    → List ℕ → Type 0
ComparesFirstOfAny result d old j ahead left calls next ahead_now unread =
    (end : ℕ) (fed : List ℕ) → IsAtFirst d old j end → 40 < end → HasRead fed ahead left
    → ComparesFirst result d old j fed calls next end ahead_now unread

-- so it is of each further record
abbrev pub ComparesNext : Result ℕ FollowEnd → ℕ → ℕ → List Call → InHand → InFeed → List ℕ → List Call → InHand → InFeed → List ℕ → Type 0
ComparesNext result index at old j ahead left calls next ahead_now unread =
    (d : Directory) (end : ℕ) (seals : List (List ℕ)) (fed : List ℕ) → IsAtSeals d old j end seals → j.gate < end
    → HasRead fed ahead left → ComparesOne result d seals j.version j.seal index at fed calls next end ahead_now unread

-- What is to be compared comes to what is behind it in the feed; or the feed ends there.
abbrev pub Compares : Result ℕ FollowEnd → ((ℕ → List ℕ → Taken) → Taken) → InFeed → List ℕ → Type 0
Compares (Ok at) what ahead unread =
    (fed : List ℕ) × ((behind : ℕ → List ℕ → Taken) → what behind ≡ behind at fed) × HasRead fed ahead unread
Compares (Err e) what ahead unread = (behind : ℕ → List ℕ → Taken) → StopsAs e (what behind) unread

-- so it is of the further records, up to a gate
abbrev pub ComparesRest : Result ℕ FollowEnd → ℕ → ℕ → List Call → InHand → InFeed → List ℕ → InFeed → List ℕ → Type 0
ComparesRest result at end old j ahead left ahead_now unread =
    (d : Directory) (seals : List (List ℕ)) (fed : List ℕ) → IsAtSeals d old j end seals → HasRead fed ahead left
    → Compares result (λ behind. compare_all j.version behind seals j.seal 1 at fed) ahead_now unread

-- so it is of all records of a journal that stands for a state
abbrev pub ComparesAll : Result ℕ FollowEnd → Directory → ℕ → List Call → InFeed → List ℕ → InFeed → List ℕ → Type 0
ComparesAll result d end old ahead left ahead_now unread =
    (s : State) (j : InHand) (fed : List ℕ) → StandsFor d s old j → j.gate ≡ end → HasRead fed ahead left
    → Compares result
    (λ behind. compare_first written d.limit behind (own_seals d (file_of old j)) (first_seal written d.mark) fed) ahead_now unread
