-- The entries of a hall whose turns add lists of them.
use Rattle.std.specs.Prelude.{ℕ, List, [], ◌∷◌, ◌++◌}
use Rattle.gts_circuits.specs.Cited.Below.{Entry, under}

-- the entries of these turns, one behind another
abbrev pub all_of : List (List Entry) → List Entry
all_of [] = []
all_of (turn ∷ turns) = turn ++ all_of turns

-- the same, each entry with the name of the pass that added it
abbrev pub flat : List (ℕ × List Entry) → List (ℕ × Entry)
flat [] = []
flat (x ∷ history) = under x.0 x.1 ++ flat history
