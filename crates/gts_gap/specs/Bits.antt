-- Bits that are kept in words of 64.
use Rattle.std.specs.Prelude.{ℕ, ◌*◌, ◌/◌, ◌%◌, ◌==◌, Bool, List, length, map}
use Rattle.gts_gap.specs.Cited.Below.{bit_at, range_with_len, slice_index_or}

-- whether a place is set
abbrev pub is_set : List ℕ → ℕ → Bool
is_set words place = bit_at (slice_index_or words (place / 64) 0) (place % 64) == 1

-- the places, of which each word has 64
abbrev pub bits_in : List ℕ → List Bool
bits_in words = map (is_set words) (range_with_len 0 (64 * length words))
