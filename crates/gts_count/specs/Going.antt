-- How what is counted goes on with a history.
use Rattle.std.specs.Prelude.{ℕ, ◌+◌, List, [], ◌∷◌, ◌++◌, length, filter}
use Rattle.gts_count.specs.Cited.Below.{Directory, State, body_of, is_recent, need}
pub use Rattle.gts_event.specs.Need.{HasWindow}
use Rattle.gts_count.specs.declared.recent.Recent.{Recent}
use Rattle.gts_count.specs.declared.recent.Arrival.{Arrival}
use Rattle.gts_count.specs.Tally.{tally, key_of}
pub use Rattle.gts_count.specs.Tally.{arrived}

-- what is counted of a message that is accepted on a circuit
abbrev pub heard_of : ℕ → List ℕ → Arrival
heard_of circuit message = record { key = key_of (body_of message); from = circuit; bytes = length (body_of message) }

-- the bulletins that are counted of a state
abbrev pub counted_in : Directory → State → List Recent
counted_in d s = (tally d (need d s)).recent

-- those of some bulletins that are among the last `window` of so many accepted
abbrev pub last_counted : Directory → ℕ → List Recent → List Recent
last_counted d count recents = filter (λ r. is_recent d count r.position) recents

-- they and one more, of which those stay that are then among the last ones
abbrev pub counted_with : Directory → State → Recent → List Recent
counted_with d s bulletin = last_counted d (s.count + 1) (counted_in d s ++ bulletin ∷ [])
