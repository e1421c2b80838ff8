-- A file that is read ahead.
use Rattle.std.specs.Prelude.{◌≡◌, ℕ, ◌+◌, ◌<◌, ◌≤◌, Bool, true, List, [], ◌++◌, length, IsErr, IsOk, OnOk, Result}
use Rattle.gts_accum.specs.declared.limits.TheConstants.{ENTRY_HEAD}
use Rattle.gts_accum.specs.declared.next.Next.{Next}
use Rattle.gts_accum.specs.declared.next.Next.TheVariants.{Head, Entry, End, Bad}
use Rattle.gts_accum.specs.Unpacking.{Unpacking}

-- A source, the bytes of it that were read ahead, and whether it has failed.
pub record Ahead (S : Type 0) : Type 0 where
  pub source : S
  pub held : List ℕ
  pub failed : Bool

-- what is left of it
abbrev pub left_ahead : {S : Type 0} → (S → List ℕ) → Ahead S → List ℕ
left_ahead left a = a.held ++ left a.source

-- What a read tells of failing: one that failed is kept in mind.
pub record KeepsFailed {S T E : Type 0} (result : Result T E) (old new : Ahead S) : Type 0 where
  pub same : OnOk result (new.failed ≡ old.failed)
  pub fails : IsErr result → new.failed ≡ true

-- a head, or bytes of an entry, can be read without the source, where so many bytes of a head were read and so many are held
abbrev pub HasEnough : Next → (head held : ℕ) → Type 0
HasEnough Head head held = ENTRY_HEAD ≤ head + held
HasEnough (Entry format left) head held = 0 < held
HasEnough End head held = Unit {0}
HasEnough (Bad place) head held = Unit {0}

-- the next piece of the capture can be given without the source
abbrev pub IsReady : {S : Type 0} → Unpacking (Ahead S) → Type 0
IsReady u = u.made ≡ [] → HasEnough u.next (length u.held) (length u.source.held)

-- a read was answered without the source
abbrev pub IsApart : {S T E : Type 0} → Result T E → (old new : Ahead S) → Type 0
IsApart result old new = IsOk result × (new.source ≡ old.source)
