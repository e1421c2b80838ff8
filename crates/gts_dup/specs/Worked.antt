-- Pairs for the worked rows. Their digests are short, since only their equality counts.
use Rattle.std.specs.Prelude.{ℕ, List, [], ◌∷◌}

abbrev pub sevens : List ℕ
sevens = 7 ∷ 7 ∷ []

abbrev pub eights : List ℕ
eights = 8 ∷ 8 ∷ []

-- two bulletins of one digest, and then one of another
abbrev pub three_noted : List (List ℕ × ℕ)
three_noted = (sevens, 0) ∷ (sevens, 1) ∷ (eights, 2) ∷ []

-- between two bulletins some are missing
abbrev pub with_a_gap : List (List ℕ × ℕ)
with_a_gap = (sevens, 0) ∷ (eights, 5) ∷ []
