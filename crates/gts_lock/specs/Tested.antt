-- Words of the tests' clauses.
use Rattle.std.specs.Prelude.{◌≡◌, ℕ, ◌+◌, ◌<◌, List, length, slice_index}
use Rattle.gts_lock.specs.Passes.{Known}

-- the pass has another history and other entries, and is the same otherwise
abbrev pub IsSamePass : Known ℕ → Known ℕ → Type 0
IsSamePass p q = q ≡ record p { seen = q.seen; own = q.own }

-- so many numbers, one after another
abbrev pub IsRun : List ℕ → ℕ → ℕ → Type 0
IsRun xs from count = (length xs ≡ count) × ((k : ℕ) → k < count → slice_index xs k ≡ from + k)
