-- How the bytes of a connection come to the next step of its decoder that is an event.
use Rattle.std.specs.Prelude.{◌≡◌, ℕ, Bool, true, false, List, ◌++◌}
use Rattle.gts_calls.specs.Cited.Below.{Decoding, Step, events_added, events_of_signs, held_in, signs_of_step}
use Rattle.gts_frame.specs.declared.step.Step.TheVariants as steps
use Rattle.gts_calls.specs.Fed.{LosesLast, KeepsOver}
use Rattle.gts_calls.specs.declared.fed.FeedEnd.{FeedEnd}
use Rattle.gts_calls.specs.declared.fed.FeedEnd.TheVariants.{All, Lost, Wanting, Fault}

-- a message, or the loss of synchronisation
abbrev pub is_event : Step → Bool
is_event (steps.Frame kind) = true
is_event (steps.Lost field) = true
is_event _ = false

-- these bytes, behind those before, ended with this step: a loss at the last of them, or synchronisation was kept
abbrev pub EndsAt : (before bytes : List ℕ) → Step → Type 0
EndsAt before bytes (steps.Lost field) = LosesLast before bytes
EndsAt before bytes _ = KeepsOver before bytes

-- A connection had the bytes before, and then came these, of which the last step is this one: all events that they have are its.
pub record Reads (before bytes : List ℕ) (step : Step) (decoder : Decoding) : Type 0 where
  pub held : decoder.held ≡ held_in (before ++ bytes)
  pub ends : EndsAt before bytes step
  pub events : (c : ℕ) → events_added c before bytes ≡ events_of_signs c (signs_of_step step decoder.message)

-- a loss is at no end but its own, or a fault
abbrev pub IsNoLoss : Step → Type 0
IsNoLoss (steps.Lost field) = ⊥
IsNoLoss _ = Unit {0}

-- what a step may come to
abbrev pub EndsStep : Step → FeedEnd → Type 0
EndsStep step All = IsNoLoss step
EndsStep step (Lost field) = step ≡ steps.Lost field
EndsStep step (Wanting kind fault) = IsNoLoss step
EndsStep step (Fault fault) = Unit {0}
