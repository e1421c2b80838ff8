-- Numbers in a fixed count of decimal digits.
use Rattle.std.specs.Prelude.{ℕ, zero, suc, ◌+◌, ◌/◌, ◌%◌, List, [], ◌∷◌, ◌++◌}

-- the last w decimal digits of n, the most significant first
unfoldable pub dec : ℕ → ℕ → List ℕ
dec zero n = []
dec (suc w) n = dec w (n / 10) ++ (48 + n % 10) ∷ []
