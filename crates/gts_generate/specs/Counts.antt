-- How often something came of a history.
use Rattle.std.specs.Prelude.{ℕ, Bool, true, false, count_by}
use Rattle.gts_generate.specs.Cited.Below.{Accepted, Asked, Draw, Duplicate, Outcome, Resend, outcomes}
use Rattle.gts_generate.specs.Centre.{directory}
use Rattle.gts_generate.specs.History.{start, history}

-- a message was accepted
abbrev pub is_accepted : Outcome → Bool
is_accepted (Accepted position circuits) = true
is_accepted _ = false

-- a message was a bulletin once more
abbrev pub is_duplicate : Outcome → Bool
is_duplicate (Duplicate position) = true
is_duplicate _ = false

-- a request was granted
abbrev pub is_granted : Outcome → Bool
is_granted (Asked found missing) = true
is_granted _ = false

-- a take drew a bulletin
abbrev pub is_draw : Outcome → Bool
is_draw (Draw index) = true
is_draw _ = false

-- a take repeated a draw
abbrev pub is_resend : Outcome → Bool
is_resend (Resend index) = true
is_resend _ = false

-- how many outcomes of a day of so many messages are of a kind
abbrev pub outcomes_on : ℕ → (Outcome → Bool) → ℕ
outcomes_on count kind = count_by kind (outcomes directory start (history count))
