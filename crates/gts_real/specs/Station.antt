-- A station on the operating system, as contracts see it.
use Rattle.std.specs.Prelude.{◌≡◌, ℕ, Bool, true, false, Option, None, Result, IsErr}
use Rattle.gts_real.specs.declared.cause.Cause.{Cause}

-- whether it was opened for reading; whether a sync failed, so that the journal files are not used any more; whether keeping what
-- was said failed, so that nothing counts as kept any more; the counts of faults; and the cause of the last one of each kind
pub record StationOnSystem : Type 0 where
  pub is_reader : Bool
  pub is_lost : Bool
  pub is_unkept : Bool
  pub disk_faults : ℕ
  pub say_faults : ℕ
  pub disk_cause : Option Cause
  pub say_cause : Option Cause

-- a station that has had no fault
abbrev pub faultless : Bool → StationOnSystem
faultless is_reader = record {
  is_reader = is_reader;
  is_lost = false;
  is_unkept = false;
  disk_faults = 0;
  say_faults = 0;
  disk_cause = None;
  say_cause = None;
}

-- where this held of the station before, the call fails; and it stays as it was
pub record FailsWhere {T E : Type 0} (result : Result T E) (before now : Bool) : Type 0 where
  pub fails : before ≡ true → IsErr result
  pub same : now ≡ before
