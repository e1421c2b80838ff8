-- What a need comes to under a directory that takes over from its own (profile).
use Rattle.std.specs.Prelude.{◌≡◌, ◌==◌, ℕ, List, [], ◌∷◌, slice_get, Some, if◌then◌else◌}
use Rattle.gts_recovery.specs.Cited.Below.{Circuit, CircuitNeed, Directory, Need, State, begun, unused}

-- What is brought along of a circuit under its old and its new row: what waits, and how many were drawn. The kept draws can be
-- asked for unless the numbers have other digits, since a number would then mean another's bytes. Nothing is owed.
abbrev pub brought : Circuit → Circuit → CircuitNeed → CircuitNeed
brought old new c = record c { kept = if new.digits == old.digits then c.kept else []; owed = [] }

-- of each circuit of the new rows; nothing of a further one
abbrev pub each_brought : List Circuit → List Circuit → List CircuitNeed → List CircuitNeed
each_brought old [] cs = []
each_brought [] (next ∷ new) cs = unused ∷ each_brought [] new []
each_brought (row ∷ old) (next ∷ new) [] = unused ∷ each_brought old new []
each_brought (row ∷ old) (next ∷ new) (c ∷ cs) = brought row next c ∷ each_brought old new cs

-- the state in which a need of the old directory goes on under the new one
abbrev pub goes_over : Directory → Directory → Need → State
goes_over new old n = begun (record n { circuits = each_brought old.circuits new.circuits n.circuits })

-- the row of circuit c in one directory, and in another
pub record AreRows (old new : Directory) (c : ℕ) (row next : Circuit) : Type 0 where
  pub before : slice_get old.circuits c ≡ Some row
  pub after : slice_get new.circuits c ≡ Some next
