-- What it is that records are added to a journal.
use Rattle.std.specs.Prelude.{◌≡◌, ℕ, ◌+◌, ◌≤◌, true, List, length, Ok}
use Rattle.gts_standby.specs.Cited.Below.{Call, Core, Directory, EachSince, InHand, IsKept, OpensTo, StandsFor, State, files_read, seen, written}
use Rattle.gts_standby.specs.declared.end.FollowEnd.{FollowEnd}
use Rattle.gts_standby.specs.declared.end.FollowEnd.TheVariants.{Open, Diverged}
use Rattle.gts_standby.specs.Ahead.{InFeed}
use Rattle.gts_standby.specs.Taking.{Taken, add_all}
use Rattle.gts_standby.specs.Following.{EachImageReads, EndsAs, IsEnd, state_after, read_after, OpensWithin}
use Rattle.gts_standby.specs.Reading.{HasRead, ReadsAll}

-- The journal is at its end, and the core holds the state that it stands for, which is this one, where the station is observed.
pub record HoldsAt (observed : Type 0) (d : Directory) (s : State) (calls : List Call) (core : Core) (j : InHand) : Type 0 where
  pub kept : IsKept written d core j.gate s
  pub current : j.version ≡ written
  pub ended : j.ended ≡ true
  pub stands : observed → StandsFor d s calls j

-- all that a feed adds was to be added
pub record HasAdded (answer : FollowEnd) (d : Directory) (s : State) (used : ℕ) (last : List ℕ) (taken : Taken) (old new : List Call)
    (left : List ℕ) : Type 0 where
  pub ends : IsEnd answer → EndsAs answer taken.end × ReadsAll answer left
  pub opened : IsEnd answer → OpensTo d (state_after d s taken) (seen new)
  pub reads : IsEnd answer → files_read written d (seen new) ≡ Ok (read_after d (s, used, last) taken)
  pub kept : IsEnd answer → EachImageReads d new (read_after d (s, used, last) taken)
  pub moments : EachSince old new (OpensWithin d (s, used, last) taken)

-- so it is of whatever state the journal stands for, and whatever the feed has left
abbrev pub AddsAll : FollowEnd → (observed : Type 0) → Directory → ℕ → List Call → Core → InHand → InFeed → List ℕ → List Call → List ℕ
    → Type 0
AddsAll answer observed d at old core j ahead left new left_now =
    (s : State) (fed : List ℕ) (n : ℕ) → HoldsAt observed d s old core j → HasRead fed ahead left → length fed ≤ n
    → HasAdded answer d s (j.gate + 1) j.seal (add_all written d n j.seal s j.gate at fed) old new left_now

-- what may be answered where records are added
abbrev pub IsAddEnd : FollowEnd → Type 0
IsAddEnd (Open fault) = ⊥
IsAddEnd (Diverged index own fed) = ⊥
IsAddEnd answer = Unit {0}
