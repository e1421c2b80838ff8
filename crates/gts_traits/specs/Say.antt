-- What was said between two moments, where nothing else was done but syncs.
use Rattle.std.specs.Prelude.{◌≡◌, ℕ, List, [], ◌∷◌, ◌++◌, Result, Ok, Err}
use Rattle.gts_traits.specs.Calls.{Broken, Call, Did, Outside, SaidSince, Says, Syncs}
use Rattle.gts_traits.specs.Station.{IsFront}
use Rattle.gts_traits.specs.Disk.{seen}

-- a call that touches no file: a sync or a say, whole or broken
abbrev pub TouchesNone : Call → Type 0
TouchesNone (Did Syncs) = Unit {0}
TouchesNone (Broken Syncs left) = Unit {0}
TouchesNone (Did (Says channel bytes)) = Unit {0}
TouchesNone (Broken (Says channel bytes) left) = Unit {0}
TouchesNone call = ⊥

-- each of these calls
abbrev pub EachTouchesNone : List Call → Type 0
EachTouchesNone [] = Unit {0}
EachTouchesNone (call ∷ calls) = TouchesNone call × EachTouchesNone calls

-- from one moment to a later one nothing was written or cut
pub record WritesNothing (old new : List Call) : Type 0 where
  pub since : List Call
  pub is : new ≡ since ++ old
  pub each : EachTouchesNone since

-- from one moment to a later one this was said, nothing was written or cut, and the files are seen as before
pub record SaysOnly (old new : List Call) (outside : Outside) : Type 0 where
  pub said : SaidSince old new outside
  pub files : (file : ℕ) → seen new file ≡ seen old file
  pub untouched : WritesNothing old new

-- a front of it was said
pub record SaysFront (old new : List Call) (outside : Outside) : Type 0 where
  pub left : Outside
  pub front : IsFront left outside
  pub said : SaysOnly old new left

-- This was to be said: it was; or a front of it was, and then saying failed.
abbrev pub Tells : {T E : Type 0} → Result T E → Outside → List Call → List Call → Type 0
Tells (Ok _) outside old new = SaysOnly old new outside
Tells (Err _) outside old new = SaysFront old new outside
