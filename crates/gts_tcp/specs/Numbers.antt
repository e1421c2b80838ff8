-- The sequence number that a frame carries, as a line tells of it at its break.
use Rattle.std.specs.Prelude.{◌≡◌, ℕ, nat_eq, List, ◌∷◌, drop, take, true}
use Rattle.gts_tcp.specs.Cited.Below.{AllDigits, EOL, FRAME_HEAD, SOH, digits_value, starts_with}
use Rattle.gts_tcp.specs.declared.numbers.Digits.{Digits}
use Rattle.gts_tcp.specs.declared.numbers.Digits.TheVariants.{Five, Three}

-- how many digits
abbrev pub count_of : Digits → ℕ
count_of Three = 3
count_of Five = 5

-- how many numbers there are of so many digits
abbrev pub round_of : Digits → ℕ
round_of Three = 1000
round_of Five = 100000

-- the bytes begin with a number of so many digits, and a line end
pub record IsNumberAt (count : ℕ) (number : ℕ) (bytes : List ℕ) : Type 0 where
  pub digits : AllDigits 10 (take count bytes)
  pub value : number ≡ digits_value 10 (take count bytes)
  pub ends : starts_with nat_eq (drop count bytes) EOL ≡ true

-- what stands behind a frame's head, SOH and a line end
abbrev pub behind_start : List ℕ → List ℕ
behind_start frame = drop 4 (drop FRAME_HEAD frame)

-- behind the frame's head stand SOH, a line end, a number of so many digits, and a line end
pub record Carries (frame : List ℕ) (count : ℕ) (number : ℕ) : Type 0 where
  pub begins : starts_with nat_eq (drop FRAME_HEAD frame) (SOH ∷ EOL) ≡ true
  pub behind : IsNumberAt count number (behind_start frame)
