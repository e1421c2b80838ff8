-- What is counted of a state, by its own bulletins.
use Rattle.std.specs.Prelude.{ℕ, List, map, zip}
use Rattle.gts_count.specs.Cited.Below.{Bulletin, Circuit, Directory, State, last_of, recent}
use Rattle.gts_count.specs.Tally.{Tally, recent_of, key_at}

-- the positions that were drawn on each circuit
abbrev pub takens_of : State → List (List ℕ)
takens_of s = map (λ q. q.taken) s.circuits

-- the keys of the draws that each circuit keeps
abbrev pub drawn_of : List Circuit → List Bulletin → List (List ℕ) → List (List (List ℕ))
drawn_of rows bulletins takens = map (λ row. map (key_at bulletins) (last_of row.0.kept row.1)) (zip rows takens)

-- what is counted of a state
abbrev pub tally_at : Directory → State → Tally
tally_at d s = record { recent = map recent_of (recent d s); drawn = drawn_of d.circuits s.accepted (takens_of s) }
