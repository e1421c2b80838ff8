-- The events of a connection as the signs that its bytes show.
use Rattle.std.specs.Prelude.{ℕ, List, [], ◌∷◌}
use Rattle.gts_connection.specs.Cited.Below.{Breaks, Carries, Event, Heard, KeepsAlive, Lost, Sign}

-- a frame is heard, a keep-alive is passed over, and a loss is an event
abbrev pub events_of_signs : ℕ → List Sign → List Event
events_of_signs circuit [] = []
events_of_signs circuit (Carries kind message ∷ signs) = Heard circuit kind message ∷ events_of_signs circuit signs
events_of_signs circuit (KeepsAlive ∷ signs) = events_of_signs circuit signs
events_of_signs circuit (Breaks field ∷ signs) = Lost circuit field ∷ events_of_signs circuit signs
