-- How a run ends, and the counts of faults behind it, by what its switch and its source stand for.
use Rattle.std.specs.Prelude.{List, length, Result}
use Rattle.gts_replay.specs.Cited.Below.{CaptureKind, Entry, SourceMeanings, SwitchMeanings}
use Rattle.gts_replay.specs.Going.{StandsFor}
use Rattle.gts_replay.specs.Replay.{Ends, HasReplayCause}
use Rattle.gts_replay.specs.Ending.{EndsSettled, HasRunCause, HasSettleCause}
use Rattle.gts_replay.specs.declared.end.ReplayEnd.{ReplayEnd}
use Rattle.gts_replay.specs.declared.fault.StepFault.{StepFault}

-- a run of a capture of this kind ended so, whatever entries the switch stood for
abbrev pub EndsRun : {W S : Type 0} → SwitchMeanings W → SourceMeanings S → CaptureKind → ReplayEnd → (old new : W) → (before after : S)
    → Type 0
EndsRun switch source kind result old new before after =
    (o : switch.Origin) (h : List Entry) → StandsFor switch.meanings o (length h) h old
    → Ends switch.meanings switch.observed kind o h source.observed result old new (source.left before) (source.left after)

-- the same, once what it gathered is settled
abbrev pub EndsUnsettled : {W S : Type 0} → SwitchMeanings W → SourceMeanings S → CaptureKind → ReplayEnd → (old new : W)
    → (before after : S) → Type 0
EndsUnsettled switch source kind result old new before after =
    (o : switch.Origin) (h : List Entry) → StandsFor switch.meanings o (length h) h old
    → EndsSettled switch.meanings switch.observed kind o h source.observed result old new (source.left before) (source.left after)

-- a step was answered so
abbrev pub CountsStep : {W S T : Type 0} → SwitchMeanings W → SourceMeanings S → Result T StepFault → (old new : W) → (before after : S)
    → Type 0
CountsStep switch source result old new before after =
    HasRunCause result (switch.disk_faults old) (switch.disk_faults new) (switch.say_faults old) (switch.say_faults new)
    (source.faults before) (source.faults after)

-- a run ended so
abbrev pub CountsRun : {W S : Type 0} → SwitchMeanings W → SourceMeanings S → ReplayEnd → (old new : W) → (before after : S) → Type 0
CountsRun switch source result old new before after =
    HasReplayCause result (switch.disk_faults old) (switch.disk_faults new) (switch.say_faults old) (switch.say_faults new)
    (source.faults before) (source.faults after)

-- a run that ended so was settled, with this end
abbrev pub CountsSettling : {W : Type 0} → SwitchMeanings W → (e result : ReplayEnd) → (old new : W) → Type 0
CountsSettling switch e result old new =
    HasSettleCause e result (switch.disk_faults old) (switch.disk_faults new) (switch.say_faults old) (switch.say_faults new)
