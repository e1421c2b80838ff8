-- Which words ask of the program itself (profile).
use Rattle.std.specs.Prelude.{ℕ, List, [], ◌∷◌, Bool, nat_eq, Option, Some, None, if◌then◌else◌, codes}
use Rattle.std.specs.Cmp.Lexicographic.{pointwise}
use Rattle.gts_words.specs.declared.asking.About.{About}
use Rattle.gts_words.specs.declared.asking.About.TheVariants.{Version, Help}

-- two words are equal
abbrev pub same : List ℕ → List ℕ → Bool
same = pointwise nat_eq

-- what one word asks
abbrev pub asked : List ℕ → Option About
asked word = if same word (codes "--version") then Some Version else (if same word (codes "--help") then Some Help else None)

-- what a list of words asks
abbrev pub asked_of : List (List ℕ) → Option About
asked_of (word ∷ []) = asked word
asked_of _ = None
