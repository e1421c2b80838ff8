-- The counts of faults behind a call, by what a switch stands for.
use Rattle.std.specs.Prelude.{Result}
use Rattle.gts_calls.specs.Cited.Below.{OpenFault, SwitchFault}
use Rattle.gts_calls.specs.Calls.{HasCallCause, HasReopenCause}
use Rattle.gts_calls.specs.declared.listens.Listens.{Ghosts as ListensMeanings}
use Rattle.gts_calls.specs.declared.switch.Switch.{Ghosts as SwitchMeanings}

-- a call on a switch was answered so
abbrev pub CountsCall : {W T : Type 0} → SwitchMeanings W → Result T SwitchFault → (old new : W) → Type 0
CountsCall switch result old new =
    HasCallCause result (switch.disk_faults old) (switch.disk_faults new) (switch.say_faults old) (switch.say_faults new)

-- its journal was opened again, with this answer
abbrev pub CountsReopening : {W : Type 0} → SwitchMeanings W → Result (Unit {0}) OpenFault → (old new : W) → Type 0
CountsReopening switch result old new =
    HasReopenCause result (switch.disk_faults old) (switch.disk_faults new) (switch.say_faults old) (switch.say_faults new)

-- what a feed asked of a switch was answered so
abbrev pub CountsFeed : {W T : Type 0} → ListensMeanings W → Result T SwitchFault → (old new : W) → Type 0
CountsFeed switch result old new =
    HasCallCause result (switch.disk_faults old) (switch.disk_faults new) (switch.say_faults old) (switch.say_faults new)
