-- What it is that a whole feed is taken into a journal that opens.
use Rattle.std.specs.Prelude.{◌≡◌, ℕ, ◌+◌, Bool, true, List, [], Result, Ok, Err}
use Rattle.gts_standby.specs.Cited.Below.{Call, Core, Directory, InHand, State, file_of, first_seal, written}
use Rattle.gts_record.specs.declared.fault.OpenFault.TheVariants as opening
use Rattle.gts_standby.specs.declared.end.FollowEnd.{FollowEnd}
use Rattle.gts_standby.specs.declared.end.FollowEnd.TheVariants.{Open}
use Rattle.gts_standby.specs.Ahead.{InFeed}
use Rattle.gts_standby.specs.Taking.{End, Taken, stopped, is_further, or_anew, take_records}
use Rattle.gts_standby.specs.Following.{EndsAs, own_seals}
use Rattle.gts_standby.specs.Beginning.{begun_taken}
use Rattle.gts_standby.specs.Reading.{HasRead, ReadsAll}
use Rattle.gts_standby.specs.Adding.{HoldsAt, HasAdded}

-- what may be answered where the journal opens
abbrev pub IsTakenEnd : FollowEnd → Type 0
IsTakenEnd (Open fault) = ⊥
IsTakenEnd answer = Unit {0}

-- a fault of a device, and want of memory, have names of their own
abbrev pub IsNamedEnd : FollowEnd → Type 0
IsNamedEnd (Open opening.DiskFault) = ⊥
IsNamedEnd (Open opening.NoMemory) = ⊥
IsNamedEnd answer = Unit {0}

-- a feed was to be taken into a journal that opens
pub record HasTaken (answer : FollowEnd) (d : Directory) (s : State) (used : ℕ) (last : List ℕ) (taken : Taken) (old new : List Call)
    (left : List ℕ) : Type 0 where
  pub kind : IsTakenEnd answer
  pub added : HasAdded answer d s used last taken old new left

-- So it is of a journal without records, of whatever state it stands for, and whatever the feed has left.
abbrev pub TakesFirst : FollowEnd → (observed : Type 0) → Directory → List Call → Core → InHand → InFeed → List ℕ → List Call → List ℕ
    → Type 0
TakesFirst answer observed d old core j ahead left new left_now =
    (s : State) (fed : List ℕ) → HoldsAt observed d s old core j → j.seal ≡ first_seal written d.mark → HasRead fed ahead left
    → HasTaken answer d s (j.gate + 1) j.seal (take_records written d s j.gate j.seal [] fed) old new left_now

-- So it is of any journal that begins with the feed's checkpoint.
abbrev pub TakesCheckpoint : FollowEnd → (observed : Type 0) → Directory → List Call → Core → InHand → InFeed → List ℕ → List Call → List ℕ
    → Type 0
TakesCheckpoint answer observed d old core j ahead left new left_now =
    (s : State) (fed : List ℕ) → HoldsAt observed d s old core j → HasRead fed ahead left
    → HasTaken answer d s (j.gate + 1) j.seal (begun_taken d fed) old new left_now

-- Where record 0 is another one, it is so of a journal with records, which begins anew, or is answered as it was compared.
abbrev pub TakesOther : FollowEnd → FollowEnd → (observed : Type 0) → Directory → List Call → Core → InHand → InFeed → List ℕ → List Call
    → List ℕ → Type 0
TakesOther compared answer observed d old core j ahead left new left_now =
    (s : State) (fed : List ℕ) (end : End) → HoldsAt observed d s old core j → HasRead fed ahead left → EndsAs compared end
    → HasTaken answer d s (j.gate + 1) j.seal (or_anew d s (begun_taken d fed) (stopped end)) old new left_now

-- a checkpoint stands at the front of a feed that a journal of this state may begin anew with, and the feed is there
abbrev pub FindsFurther : Bool → Directory → State → List ℕ → InFeed → List ℕ → Type 0
FindsFurther is d s fed ahead left = (is ≡ is_further d s (begun_taken d fed)) × (is ≡ true → HasRead fed ahead left)

-- so it is of any journal
abbrev pub TakesRecords : FollowEnd → (observed : Type 0) → Directory → List Call → Core → InHand → InFeed → List ℕ → List Call → List ℕ
    → Type 0
TakesRecords answer observed d old core j ahead left new left_now =
    (s : State) (fed : List ℕ) → HoldsAt observed d s old core j → HasRead fed ahead left
    → HasTaken answer d s (j.gate + 1) j.seal (take_records written d s j.gate j.seal (own_seals d (file_of old j)) fed) old new left_now

-- where all was read ahead, the source has no more
abbrev pub IsWhole : InFeed → List ℕ → Type 0
IsWhole ahead left = ahead.is_all ≡ true → left ≡ []

-- so it stays where the feed goes on; at its end the source has no more
abbrev pub StaysWhole : {T : Type 0} → Result T FollowEnd → InFeed → List ℕ → Type 0
StaysWhole (Ok _) ahead left = IsWhole ahead left
StaysWhole (Err end) ahead left = ReadsAll end left
