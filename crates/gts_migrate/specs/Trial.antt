-- What a takeover would come to, tried without writing.
use Rattle.std.specs.Prelude.{◌≡◌, ◌-◌, ◌^◌, ℕ, min, Option, None, Some, Ok, IsTrue}
use Rattle.gts_migrate.specs.Cited.Below.{Directory, Files, Need, State, SwitchFault, full_compacted, is_sound, need, need_of}
use Rattle.gts_event.specs.declared.fault.SwitchFault.TheVariants as switch
pub use Rattle.gts_recovery.specs.Opened.{IsAnswer, files_open_any}
use Rattle.gts_migrate.specs.LettingGo.{goes_on, waits_on_closed}
use Rattle.gts_migrate.specs.declared.fault.MigrateFault.{MigrateFault}
use Rattle.gts_migrate.specs.declared.fault.MigrateFault.TheVariants.{Waits, Full}
use Rattle.gts_migrate.specs.declared.trial.Trial.{Trial}

-- the bytes that are wanted are told up to the greatest number
abbrev pub as_told : Option SwitchFault → Option MigrateFault
as_told (Some (switch.Full used wanted limit)) = Some (Full used (min wanted (2 ^ 64 - 1)) limit)
as_told _ = None

-- something waits on a closed circuit, or else this
abbrev pub or_waits : Option (ℕ × ℕ) → Option MigrateFault → Option MigrateFault
or_waits (Some found) full = Some (Waits found.0 found.1)
or_waits None full = full

-- Why a need of the old directory would not be taken over under the new one: something waits on a circuit that is closed there; or
-- the checkpoint and all draws that are due would pass its limit.
abbrev pub refusal : Directory → Directory → Need → Option MigrateFault
refusal new old n = or_waits (waits_on_closed new n) (as_told (full_compacted new (goes_on new old n)))

-- the files open to this state, where it is told
abbrev pub OpensTo : Type 0 → Directory → Files → State → Type 0
OpensTo observed d files s = observed → (used : ℕ) × (files_open_any d files ≡ Ok (s, used))

-- The trial is that of a state of which this holds: it has the need of that, which is sound.
pub record IsTried (old new : Directory) (OfIt : State → Type 0) (t : Trial) : Type 0 where
  pub state : State
  pub opened : OfIt state
  pub needed : need_of t.need ≡ need old state
  pub sound : IsTrue (is_sound old (need old state))
  pub refused : t.refusal ≡ refusal new old (need old state)
