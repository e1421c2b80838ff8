-- What waits, by levels: 1 goes first.
use Rattle.std.specs.Prelude.{◌≡◌, ◌≢◌, ℕ, ◌<◌, ◌^◌, List, [], ◌∷◌, length, sum_by, slice_index, slice_index_or, refl}
use Rattle.std.specs.Coded.{Coded, code_by, coded×, coded_list, coded_ℕ}

-- the positions that wait on each level, in order; and how many more each level has room for
pub record Waiting : Type 0 where
  pub levels : List (List ℕ)
  pub spares : List ℕ

-- what contracts see, as a pair of lists
abbrev pub waiting_code : Coded Waiting
waiting_code = code_by (List (List ℕ) × List ℕ)
    (coded× (coded_list (coded_list coded_ℕ)) (coded_list coded_ℕ))
    (λ w. (w.levels, w.spares)) (λ p. record { levels = p.0; spares = p.1 }) (λ _. refl)

-- the most positions that wait
abbrev pub most_waiting : ℕ
most_waiting = 2 ^ 62

-- the positions of a level, in order; levels are counted from 1
abbrev pub at_level : Waiting → ℕ → List ℕ
at_level w level = slice_index_or ([] ∷ w.levels) level []

-- how many more positions a level takes without memory
abbrev pub spare : Waiting → ℕ → ℕ
spare w level = slice_index (0 ∷ w.spares) level

-- how many positions wait, over all levels
abbrev pub count_of : Waiting → ℕ
count_of w = sum_by length w.levels

-- each position is below a number
abbrev pub AllBelow : ℕ → List ℕ → Type 0
AllBelow n [] = Unit {0}
AllBelow n (position ∷ positions) = (position < n) × AllBelow n positions

-- a position is the first of a level, and nothing waits on a smaller level
pub record GoesNext (w : Waiting) (position : ℕ) : Type 0 where
  pub level : ℕ
  pub behind : List ℕ
  pub first : at_level w level ≡ position ∷ behind
  pub smaller : (l : ℕ) → l < level → at_level w l ≡ []

-- a position was the first of a level, nothing waited on a smaller level, and only it is gone
pub record TakesNext (old new : Waiting) (position : ℕ) : Type 0 where
  pub level : ℕ
  pub first : at_level old level ≡ position ∷ at_level new level
  pub smaller : (l : ℕ) → l < level → at_level old l ≡ []
  pub others : (l : ℕ) → l ≢ level → at_level new l ≡ at_level old l

-- nothing waits on any level
abbrev pub NothingWaits : Waiting → Type 0
NothingWaits w = (l : ℕ) → at_level w l ≡ []
