-- How a step of a capture was done, or was not done to its end.
use Rattle.std.specs.Prelude.{◌≡◌, ◌⊎◌, ℕ, ◌+◌, ◌<◌, ◌≤◌, List, [], ◌++◌, length, Result, Ok, Err, IsErrOf, OnOk}
use Rattle.gts_replay.specs.declared.capture_fault.CaptureFault.TheVariants.{Bad, SourceFault}
use Rattle.gts_replay.specs.Cited.Below.{BreaksOff, CaptureKind, Compact, Connections, Decoding, Entry, Feed, FeedHead, Head, IsCompactCause, IsSettling, LONGEST_CAPTURE, Restart, Rose, Standing, Stands, Step, SwitchFault, after_step, bytes_of_step, entries_of_step, head_of}
use Rattle.gts_replay.specs.Held.{Held, IsSameCapture, readable_from}
use Rattle.gts_replay.specs.Going.{StandsFor, state_at, BreaksAtRestart, Remains, Decode, IsFed, BreaksFeed}
use Rattle.gts_event.specs.declared.fault.SwitchFault.TheVariants as switch
use Rattle.gts_record.specs.declared.fault.OpenFault.TheVariants as opening
use Rattle.gts_replay.specs.declared.end.ReplayEnd.{ReplayEnd}
use Rattle.gts_replay.specs.declared.end.ReplayEnd.TheVariants as end
use Rattle.gts_replay.specs.declared.fault.StepFault.{StepFault}
use Rattle.gts_replay.specs.declared.fault.StepFault.TheVariants as step
use Rattle.gts_replay.specs.Replay.{Ends, IsUnfailed}

-- the end of a run in which a step was not done to its end
abbrev pub end_of : StepFault → ReplayEnd
end_of (step.Capture (Bad at)) = end.Capture at
end_of (step.Capture SourceFault) = end.SourceFault
end_of (step.Reopen opening.NoMemory) = end.NoMemory
end_of (step.Reopen fault) = end.Reopen fault
end_of (step.Compaction switch.NoMemory) = end.NoMemory
end_of (step.Compaction fault) = end.Compaction fault
end_of (step.Switch switch.NoMemory) = end.NoMemory
end_of (step.Switch fault) = end.Fault fault

-- ---- what was taken of a capture

-- these bytes of a feed were taken
pub record Takes (observed : Type 0) (bytes : List ℕ) (old new : Held) (before after : List ℕ) : Type 0 where
  pub told : observed → old.ahead ++ before ≡ bytes ++ (new.ahead ++ after)
  pub feed : new.feed + length bytes ≡ old.feed
  pub at : new.at ≡ old.at + length bytes
  pub within : old.at ≤ LONGEST_CAPTURE → new.at ≤ LONGEST_CAPTURE
  pub same : IsSameCapture old new

-- the bytes that are read of the source end in a feed behind these, at this place
pub record EndsBehind (observed : Type 0) (bytes : List ℕ) (at : ℕ) (old : Held) (before : List ℕ) : Type 0 where
  pub rest : List ℕ
  pub told : observed → old.ahead ++ before ≡ bytes ++ rest
  pub short : observed → length bytes < old.feed
  pub place : observed → at ≡ old.at + length bytes
  pub within : old.at ≤ LONGEST_CAPTURE → old.at + length bytes ≤ LONGEST_CAPTURE
  pub nothing : observed → readable_from (old.at + length bytes) rest ≡ []

-- the source failed in a feed behind these bytes
pub record StopsBehind (observed : Type 0) (bytes : List ℕ) (old : Held) (before after : List ℕ) : Type 0 where
  pub told : observed → old.ahead ++ before ≡ bytes ++ after
  pub short : observed → length bytes < old.feed
  pub within : old.at ≤ LONGEST_CAPTURE → old.at + length bytes ≤ LONGEST_CAPTURE

-- no more than these bytes were taken of a feed
pub record TakesNoMore (observed : Type 0) (bytes : List ℕ) (old : Held) (before : List ℕ) : Type 0 where
  pub rest : List ℕ
  pub told : observed → old.ahead ++ before ≡ bytes ++ rest
  pub most : length bytes ≤ old.feed
  pub within : old.at ≤ LONGEST_CAPTURE → old.at + length bytes ≤ LONGEST_CAPTURE

-- what a step takes behind its head, by its answer
abbrev pub HasTaken : Type 0 → List ℕ → Result (Unit {0}) StepFault → Held → Held → List ℕ → List ℕ → Type 0
HasTaken observed bytes (Ok _) old new before after = Takes observed bytes old new before after × (new.feed ≡ 0)
HasTaken observed bytes (Err (step.Capture (Bad at))) old new before after = EndsBehind observed bytes at old before
HasTaken observed bytes (Err (step.Capture SourceFault)) old new before after = StopsBehind observed bytes old before after
HasTaken observed bytes (Err _) old new before after = TakesNoMore observed bytes old before

-- ---- which entries were added

-- bytes came on a circuit and were dealt with, or broke off at a fault of the switch
abbrev pub IsFedOr : {O W : Type 0} → Standing O W → ℕ → Decoding → W → List ℕ → Result (Unit {0}) StepFault → Decoding → W → Type 0
IsFedOr meanings c old begun bytes (Err (step.Switch fault)) decoder now = BreaksFeed meanings c old begun bytes fault now
IsFedOr meanings c old begun bytes (Err (step.Reopen fault)) decoder now = ⊥
IsFedOr meanings c old begun bytes (Err (step.Compaction fault)) decoder now = ⊥
IsFedOr meanings c old begun bytes _ decoder now = IsFed meanings c old begun bytes decoder now

-- the origin behind a step
abbrev pub origin_after : {O W : Type 0} → Standing O W → O → List Entry → Step → O
origin_after meanings o h Compact = meanings.compacts o h
origin_after meanings o h _ = o

-- how many of these entries are certainly settled behind a step: all, where the journal was opened again or compacted
abbrev pub first_after : (first : ℕ) → List Entry → Step → ℕ
first_after first h Restart = length h
first_after first h Compact = length h
first_after first h _ = first

-- The journal was to be compacted, and was not.
pub record IsUncompacted {O W : Type 0} (meanings : Standing O W) (o : O) (h : List Entry) (step : Step)
    (fault : SwitchFault) (now : W) : Type 0 where
  pub at_step : step ≡ Compact
  pub remains : Remains meanings o h fault now
  pub cause : IsCompactCause (meanings.is_full_compacted o h) h fault

-- these entries of a step were to be added: all were, or those before a fault
abbrev pub Went : {O W : Type 0} → Standing O W → Type 0 → O → (first : ℕ) → (h more : List Entry) → Step → Result (Unit {0}) StepFault → W
    → Type 0
Went meanings station o first h more s (Ok _) now = Stands meanings (origin_after meanings o h s) (first_after first h s) (h ++ more) now
Went meanings station o first h more s (Err (step.Capture fault)) now =
    Stands meanings (origin_after meanings o h s) (first_after first h s) (h ++ more) now
Went meanings station o first h more s (Err (step.Reopen fault)) now =
    (s ≡ Restart) × BreaksAtRestart meanings station (λ _. o) h more fault now
Went meanings station o first h more s (Err (step.Compaction fault)) now = IsUncompacted meanings o h s fault now
Went meanings station o first h more s (Err (step.Switch fault)) now = BreaksOff meanings (λ _. o) first h more fault now

-- Bytes of a feed came on a circuit: what they add was added, or what stands before a fault, and then the decoder took them.
pub record Feeds {O W : Type 0} (meanings : Standing O W) (observed : Type 0) (c : ℕ) (result : Result (Unit {0}) StepFault)
    (held held_now : Held) (left left_now : List ℕ)
    (decoder decoder_now : Decoding) (old new : W) : Type 0 where
  pub bytes : List ℕ
  pub taken : HasTaken observed bytes result held held_now left left_now
  pub fed : IsFedOr meanings c decoder old bytes result decoder_now new

-- a step of this head; of a feed no more than so many bytes
abbrev pub IsStepOf : Head → Step → Type 0
IsStepOf (FeedHead c n) step = (bytes : List ℕ) × (step ≡ Feed c bytes)
IsStepOf head step = head_of step ≡ head

-- A step of this head was to be done: its entries were added, or those before a fault, and then the decoders have what came
-- on their connections.
pub record DoesStep {O W : Type 0} (meanings : Standing O W) (station observed : Type 0) (head : Head)
    (result : Result (Unit {0}) StepFault)
    (held held_now : Held) (left left_now : List ℕ)
    (decoders decoders_now : List Decoding) (old new : W) : Type 0 where
  pub step : Step
  pub of_head : IsStepOf head step
  pub taken : HasTaken observed (bytes_of_step step) result held held_now left left_now
  pub went : (bs : Connections) (o : O) (first : ℕ) (h : List Entry) → Decode decoders bs → StandsFor meanings o first h old
      → Went meanings station o first h (entries_of_step (state_at meanings old o h) bs step) step result new
  pub begins : (o : O) (h : List Entry) → OnOk result (meanings.begin (origin_after meanings o h step) ≡ meanings.begin o)
  pub decode : (bs : Connections) → Decode decoders bs → OnOk result (Decode decoders_now (after_step (meanings.directory old) bs step))

-- ---- what was gathered is settled behind a run

-- the end of a run whose last records were to be brought into the journal and said, with this answer
abbrev pub settled_end : ReplayEnd → Result (Unit {0}) SwitchFault → ReplayEnd
settled_end e (Ok _) = e
settled_end e (Err fault) = end.Fault fault

-- a run that ended so was settled, with this end
pub record SettlesTo {O W : Type 0} (meanings : Standing O W) (e result : ReplayEnd) (old new : W) : Type 0 where
  pub answer : Result (Unit {0}) SwitchFault
  pub settling : IsSettling meanings answer old new
  pub is : result ≡ settled_end e answer

-- A run that ended so was settled, with this end, where the switch answered with no fault: after one nothing is gathered, and the
-- switch is left as it is.
abbrev pub SettlesBehind : {O W : Type 0} → Standing O W → (e result : ReplayEnd) → (old new : W) → Type 0
SettlesBehind meanings end.Done result old new = SettlesTo meanings end.Done result old new
SettlesBehind meanings (end.Capture at) result old new = SettlesTo meanings (end.Capture at) result old new
SettlesBehind meanings end.SourceFault result old new = SettlesTo meanings end.SourceFault result old new
SettlesBehind meanings e result old new = (result ≡ e) × (new ≡ old)

-- How a run ends, once it was settled: it is said of whatever settling leaves.
abbrev pub EndsSettled : {O W : Type 0} → Standing O W → Type 0 → CaptureKind → O → List Entry → Type 0 → ReplayEnd → (old new : W)
    → (bytes left : List ℕ) → Type 0
EndsSettled {O} {W} meanings station kind o h observed e old new bytes left =
    (result : ReplayEnd) (now : W) → SettlesBehind meanings e result new now
    → Ends meanings station kind o h observed result old now bytes left

-- A fault of a device that the run didn't end with is answered only where its count rose; without one no count rose.
pub record HasSettleCause (e result : ReplayEnd) (disk disk_now say say_now : ℕ) : Type 0 where
  pub disk_later : disk ≤ disk_now
  pub say_later : say ≤ say_now
  pub disk_failed : result ≡ end.Fault switch.DiskFault → (e ≡ result) ⊎ Rose disk disk_now
  pub say_failed : result ≡ end.Fault switch.SayFault → (e ≡ result) ⊎ Rose say say_now
  pub others : (result ≡ e) ⊎ ((fault : SwitchFault) × (result ≡ end.Fault fault))
  pub sound : IsUnfailed result → (disk_now ≡ disk) × (say_now ≡ say)

-- no count rose
abbrev pub AreStill : (disk disk_now say say_now source source_now : ℕ) → Type 0
AreStill disk disk_now say say_now source source_now = (disk_now ≡ disk) × (say_now ≡ say) × (source_now ≡ source)

-- A fault of a device is answered only where its count rose; where the step was done, or its bytes are bad, no count rose.
pub record HasRunCause {T : Type 0} (result : Result T StepFault) (disk disk_now say say_now source source_now : ℕ) : Type 0 where
  pub disk_later : disk ≤ disk_now
  pub say_later : say ≤ say_now
  pub source_later : source ≤ source_now
  pub disk_failed : IsErrOf result (step.Switch switch.DiskFault) → Rose disk disk_now
  pub compaction_failed : IsErrOf result (step.Compaction switch.DiskFault) → Rose disk disk_now
  pub reopen_failed : IsErrOf result (step.Reopen opening.DiskFault) → Rose disk disk_now
  pub say_failed : IsErrOf result (step.Switch switch.SayFault) → Rose say say_now
  pub source_failed : IsErrOf result (step.Capture SourceFault) → Rose source source_now
  pub sound : OnOk result (AreStill disk disk_now say say_now source source_now)
  pub bad : (at : ℕ) → IsErrOf result (step.Capture (Bad at)) → AreStill disk disk_now say say_now source source_now
