-- How a run ended that names the numbers that are missing in a capture, and what was said.
use Rattle.std.specs.Prelude.{◌≡◌, ℕ, ◌≤◌, List}
use Rattle.gts_gap.specs.Cited.Below.{Call, Directory, IsWhole, Outside, Rose, SaysFront, SaysOnly, SourceMeanings, StationMeanings, Step}
use Rattle.gts_gap.specs.Capture.{numbers}
use Rattle.gts_gap.specs.Counting.{IsCutAt}
use Rattle.gts_gap.specs.Saying.{report}
use Rattle.gts_gap.specs.declared.moment.Moment.{Moment}
use Rattle.gts_gap.specs.declared.fault.GapsEnd.{GapsEnd}
use Rattle.gts_gap.specs.declared.fault.GapsEnd.TheVariants as end

-- what is said of the numbers of these steps
abbrev pub report_of : Directory → Moment → List Step → Outside
report_of d moment steps = report d moment (λ c. numbers d c steps)

-- the whole capture was read, and this holds of the steps
pub record Reads (observed : Type 0) (d : Directory) (bytes : List ℕ) (OfSteps : List Step → Type 0) : Type 0 where
  pub steps : List Step
  pub whole : observed → IsWhole d bytes steps
  pub holds : OfSteps steps

-- For each end, what it means: the report of the whole capture was said, or a front of it, or nothing was.
abbrev pub Names : {P : Type 0} → (observed heard : Type 0) → Directory → Moment → GapsEnd → List ℕ
    → (station now : P) → (old new : List Call) → Type 0
Names observed heard d moment end.Done bytes station now old new =
    Reads observed d bytes (λ steps. heard → SaysOnly old new (report_of d moment steps))
Names observed heard d moment (end.Capture at) bytes station now old new = IsCutAt observed d bytes at × (now ≡ station)
Names observed heard d moment end.SourceFault bytes station now old new = now ≡ station
Names observed heard d moment end.SayFault bytes station now old new =
    Reads observed d bytes (λ steps. heard → SaysFront old new (report_of d moment steps))
Names observed heard d moment end.NoMemory bytes station now old new = now ≡ station

-- no device ended it: what is missing was said, or the bytes are no capture
abbrev pub IsUnfailed : GapsEnd → Type 0
IsUnfailed end.Done = Unit {0}
IsUnfailed (end.Capture at) = Unit {0}
IsUnfailed _ = ⊥

-- a device's fault is answered only where its count rose, and no count falls; where no device ended it, none rose
pub record HasGapsCause (result : GapsEnd) (source source_now say say_now : ℕ) : Type 0 where
  pub source_later : source ≤ source_now
  pub say_later : say ≤ say_now
  pub source_failed : result ≡ end.SourceFault → Rose source source_now
  pub say_failed : result ≡ end.SayFault → Rose say say_now
  pub sound : IsUnfailed result → (source_now ≡ source) × (say_now ≡ say)

-- the same, by what the source and the station stand for
abbrev pub CountsGaps : {S P : Type 0} → SourceMeanings S → StationMeanings P → GapsEnd → (before after : S) → (old new : P) → Type 0
CountsGaps source station result before after old new =
    HasGapsCause result (source.faults before) (source.faults after) (station.say_faults old) (station.say_faults new)
