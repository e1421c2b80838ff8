-- The commands that may be called beside a switch that runs in the same folder (profile).
use Rattle.std.specs.Prelude.{ℕ, Bool, false, ◌||◌, ◌&&◌, List, Option, None, Some, codes}
use Rattle.gts_words.specs.Commands.{same}

-- the command of this name only reads the journal, whatever stands behind it
abbrev pub looks : List ℕ → Bool
looks name = same name (codes "show") || same name (codes "ship")

-- the command of these two words does: one that looks, or `migrate check`
abbrev pub only_reads : Option (List ℕ) → Option (List ℕ) → Bool
only_reads (Some name) (Some word) = looks name || (same name (codes "migrate") && same word (codes "check"))
only_reads (Some name) None = looks name
only_reads None word = false
