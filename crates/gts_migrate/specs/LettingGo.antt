-- What a need comes to under a directory that takes over from its own, where circuits are closed in that: what waits on these is let
-- go, and all else goes on.
use Rattle.std.specs.Prelude.{ℕ, ◌+◌, ◌&&◌, nat_lt, List, [], ◌∷◌, length, Option, None, Some, if◌then◌else◌}
use Rattle.gts_migrate.specs.Cited.Below.{Circuit, CircuitNeed, CircuitState, Directory, Need, State, goes_over, need, restarted}

-- a circuit that a start stands for, with nothing waiting
abbrev pub emptied : CircuitState → CircuitState
emptied q = record q { routed = [] }

-- each circuit whose row is closed has nothing waiting
abbrev pub each_let_go : List Circuit → List CircuitState → List CircuitState
each_let_go [] qs = qs
each_let_go (row ∷ rows) [] = []
each_let_go (row ∷ rows) (q ∷ qs) = (if row.closed then emptied q else q) ∷ each_let_go rows qs

-- a start with nothing waiting on the circuits that are closed
abbrev pub let_go : Directory → State → State
let_go d s = record s { circuits = each_let_go d.circuits s.circuits }

-- The state in which a need of the old directory goes on under the new one: what was drawn and what waits is brought over, but for
-- what waits on circuits that are closed in the new one.
abbrev pub goes_on : Directory → Directory → Need → State
goes_on new old n = let_go new (goes_over new old n)

-- the need to which a journal of this need opens once it was taken over
abbrev pub opened_on : Directory → Directory → Need → Need
opened_on new old n = need new (restarted new (goes_on new old n))

-- how many wait on a circuit under a row that is closed
abbrev pub waits_closed : Circuit → CircuitNeed → ℕ
waits_closed row c = if row.closed then length c.waiting else 0

-- how many wait on closed circuits
abbrev pub waiting_closed : List Circuit → List CircuitNeed → ℕ
waiting_closed [] cs = 0
waiting_closed (row ∷ rows) [] = 0
waiting_closed (row ∷ rows) (c ∷ cs) = waits_closed row c + waiting_closed rows cs

-- how many of a need are let go under a directory
abbrev pub left_behind : Directory → Need → ℕ
left_behind new n = waiting_closed new.circuits n.circuits

-- the first closed circuit on which something waits, and how many, where circuits count from c
abbrev pub first_waiting : ℕ → List Circuit → List CircuitNeed → Option (ℕ × ℕ)
first_waiting c [] cs = None
first_waiting c (row ∷ rows) [] = None
first_waiting c (row ∷ rows) (q ∷ cs) =
    if row.closed && nat_lt 0 (length q.waiting) then Some (c, length q.waiting) else first_waiting (c + 1) rows cs

-- the same under a directory
abbrev pub waits_on_closed : Directory → Need → Option (ℕ × ℕ)
waits_on_closed new n = first_waiting 0 new.circuits n.circuits
