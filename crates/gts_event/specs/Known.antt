-- What is known as a duplicate.
use Rattle.std.specs.Prelude.{◌≡◌, ℕ, List, IsSome, IsTrue}
use Rattle.gts_event.specs.Cited.Below.{Directory, Kind}
use Rattle.gts_event.specs.State.{State, Bulletin, is_recent, duplicate, heading_of, text_of}
use Rattle.gts_event.specs.History.{Heard, outcome}
use Rattle.gts_event.specs.declared.outcome.Outcome.TheVariants.{Duplicate}

-- a bulletin has its duplicate there as long as its position is among the last `window`
abbrev pub Knows : Directory → State → Bulletin → Type 0
Knows d s b = IsTrue (is_recent d s.count b.position) → IsSome (duplicate d s (heading_of b.body) (text_of b.body))

-- a message of a position is a duplicate, on whatever circuit it comes, as long as the position is among the last `window`
abbrev pub KnowsMessage : Directory → State → ℕ → List ℕ → Type 0
KnowsMessage d s position message =
    IsTrue (is_recent d s.count position) → (c : ℕ) (kind : Kind) → (p : ℕ) × (outcome d s (Heard c kind message) ≡ Duplicate p)
