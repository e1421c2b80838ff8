-- Capitals, and the letters of BBB groups.
use Rattle.std.specs.Prelude.{ℕ, Bool, true, false, ◌&&◌, ◌||◌, ◌==◌, List, [], ◌∷◌, Option, Some, None}
use Rattle.gts_heading.specs.Cited.Below.{is_ascii_uppercase, list_all}

-- capitals of International Alphabet No. 5
abbrev pub are_capitals : List ℕ → Bool
are_capitals letters = list_all is_ascii_uppercase letters

-- A BBB group (profile): RRx, CCx, AAx or Pxy, x and y any capitals. 82, 67, 65 and 80 are R, C, A and P.
abbrev pub is_bbb : List ℕ → Bool
is_bbb (a ∷ b ∷ c ∷ []) =
    is_ascii_uppercase c
    && (((a == 82) && (b == 82)) || ((a == 67) && (b == 67)) || ((a == 65) && (b == 65)) || ((a == 80) && is_ascii_uppercase b))
is_bbb _ = false

-- no group, or the letters of one
abbrev pub is_group : Option (List ℕ) → Bool
is_group None = true
is_group (Some letters) = is_bbb letters
