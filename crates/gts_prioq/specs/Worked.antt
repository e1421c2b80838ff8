-- Four positions that wait, for the worked rows.
use Rattle.std.specs.Prelude.{ℕ, [], ◌∷◌, slice_index_or}
use Rattle.gts_prioq.specs.Waiting.{Waiting}

-- positions 1 and 3 have level 1, and 0 and 2 level 3
abbrev pub worked_level : ℕ → ℕ
worked_level position = slice_index_or (3 ∷ 1 ∷ 3 ∷ 1 ∷ []) position 4

-- they wait on their levels, and level 2 has room for seven
abbrev pub four_waiting : Waiting
four_waiting = record {
  levels = (1 ∷ 3 ∷ []) ∷ [] ∷ (0 ∷ 2 ∷ []) ∷ [] ∷ [];
  spares = 0 ∷ 7 ∷ 1 ∷ 0 ∷ [];
}
