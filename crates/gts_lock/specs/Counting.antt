-- Words of the counting hall's clauses.
use Rattle.std.specs.Prelude.{◌≡◌, ◌+◌, ℕ, List, Some}
use mathlib.Core.Option.{some}
use lib.ListN.{get_elem?}
use Rattle.atomic_table.specs.Seated.{TableId}
use Rattle.gts_lock.specs.History.{StartsWith}
use Rattle.gts_lock.specs.Passes.{Known, after_seeing, after_adding}

-- the pass saw the history as it was at its turn, and added this number
pub record Counts (number : ℕ) (old new : Known ℕ) : Type 0 where
  pub history : List (ℕ × ℕ)
  pub later : StartsWith history old.seen
  pub is : new ≡ after_adding (after_seeing old history) number

-- the pass is one of this hall, and has this name
abbrev pub IsOf : TableId → ℕ → Known ℕ → Type 0
IsOf hall name pass = (pass.hall ≡ Some hall) × (pass.name ≡ name)

-- these are the passes that were split off the first one, in the order of their names
abbrev pub AreSplitOff : TableId → List (Known ℕ) → Type 0
AreSplitOff hall passes = (k : ℕ) (p : Known ℕ) → get_elem? passes k ≡ some p → IsOf hall (k + 1) p
