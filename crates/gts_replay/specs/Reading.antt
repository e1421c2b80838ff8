-- How a run reads on: what its switch gathered is settled before the source may wait.
use Rattle.std.specs.Prelude.{◌≡◌, ◌⊎◌, ℕ, ◌+◌, ◌≤◌, List, ◌++◌, length, Result, Ok, Err}
use Rattle.gts_replay.specs.Cited.Below.{Head, IsHeadIn, IsSettling, LONGEST_CAPTURE, Standing, head_text}
use Rattle.gts_replay.specs.Held.{Held, IsSameCapture}
use Rattle.gts_replay.specs.Heads.{bytes_announced}
use Rattle.gts_replay.specs.declared.fault.StepFault.{StepFault}
use Rattle.gts_replay.specs.declared.fault.StepFault.TheVariants as step

-- the switch is as settling leaves one, which was answered with no fault: nothing is gathered
abbrev pub IsSettled : {O W : Type 0} → Standing O W → W → Type 0
IsSettled {O} {W} meanings now = (before : W) × IsSettling meanings (Ok tt) before now

-- what was gathered was settled, or is gathered still
abbrev pub MayHaveSettled : {O W : Type 0} → Standing O W → (old new : W) → Type 0
MayHaveSettled meanings old new = (new ≡ old) ⊎ IsSettling meanings (Ok tt) old new

-- What reading on asked of the switch, by its answer: nothing, where enough was read before, or to settle. A fault of the switch is that
-- of settling.
abbrev pub SettlesFirst : {O W T : Type 0} → Standing O W → Result T StepFault → (old new : W) → Type 0
SettlesFirst meanings (Err (step.Switch fault)) old new = IsSettling meanings (Err fault) old new
SettlesFirst meanings (Err (step.Reopen fault)) old new = ⊥
SettlesFirst meanings (Err (step.Compaction fault)) old new = ⊥
SettlesFirst meanings result old new = MayHaveSettled meanings old new

-- a head was read
pub record ReadsHead (observed : Type 0) (head : Head) (old new : Held) (before after : List ℕ) : Type 0 where
  pub told : observed → old.ahead ++ before ≡ head_text head ++ (new.ahead ++ after)
  pub valid : IsHeadIn old.circuits old.kind head
  pub feed : new.feed ≡ bytes_announced head
  pub at : new.at ≡ old.at + length (head_text head)
  pub within : new.at ≤ LONGEST_CAPTURE
  pub same : IsSameCapture old new
