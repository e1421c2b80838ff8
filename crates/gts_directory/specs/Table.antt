-- Which rules allow which character at which place of a heading, sixty-four rules in a block.
use Rattle.std.specs.Prelude.{◌≡◌, ℕ, ◌+◌, ◌-◌, ◌*◌, ◌/◌, ◌%◌, ◌^◌, ◌<◌, ◌≤◌, min, max, Bool, ◌||◌, ◌==◌, List, [], ◌∷◌, length, take, drop, slice_index, slice_index_or, if◌then◌else◌, bit_and, bit_or}
use Rattle.gts_directory.specs.Cited.Below.{All, HeadingFields, bit_at, dec}
use Rattle.gts_directory.specs.declared.rows.RuleRow.{RuleRow}
use Rattle.gts_directory.specs.Routing.{bit}

-- a digit (from 48) or a capital (up to 90), or what stands between them: 43 characters
abbrev pub IsCharacter : ℕ → Type 0
IsCharacter character = (48 ≤ character) × (character ≤ 90)

-- a cell for each place and each character
abbrev pub cell_of : ℕ → ℕ → ℕ
cell_of place character = place * 43 + (character - 48)

-- a pattern allows the character of a cell at its place
abbrev pub allows : List ℕ → ℕ → Bool
allows pattern cell = (slice_index pattern (cell / 43) == 42) || (slice_index pattern (cell / 43) == cell % 43 + 48)

-- the cells of a heading; a blank stands at place 6
abbrev pub cells_of : HeadingFields → List ℕ
cells_of h =
    cell_of 0 (slice_index h.tt 0) ∷ cell_of 1 (slice_index h.tt 1)
    ∷ cell_of 2 (slice_index h.aa 0) ∷ cell_of 3 (slice_index h.aa 1)
    ∷ cell_of 4 (slice_index (dec 2 h.ii) 0) ∷ cell_of 5 (slice_index (dec 2 h.ii) 1)
    ∷ cell_of 7 (slice_index h.cccc 0) ∷ cell_of 8 (slice_index h.cccc 1)
    ∷ cell_of 9 (slice_index h.cccc 2) ∷ cell_of 10 (slice_index h.cccc 3) ∷ []

-- each character of a heading's type, area, number and centre has cells
pub record AreCharacters (h : HeadingFields) : Type 0 where
  pub type_first : IsCharacter (slice_index h.tt 0)
  pub type_second : IsCharacter (slice_index h.tt 1)
  pub area_first : IsCharacter (slice_index h.aa 0)
  pub area_second : IsCharacter (slice_index h.aa 1)
  pub number_first : IsCharacter (slice_index (dec 2 h.ii) 0)
  pub number_second : IsCharacter (slice_index (dec 2 h.ii) 1)
  pub centre_first : IsCharacter (slice_index h.cccc 0)
  pub centre_second : IsCharacter (slice_index h.cccc 1)
  pub centre_third : IsCharacter (slice_index h.cccc 2)
  pub centre_fourth : IsCharacter (slice_index h.cccc 3)

-- bit i tells whether rule i passes
abbrev pub bits_of : (RuleRow → Bool) → List RuleRow → ℕ
bits_of test [] = 0
bits_of test (rule ∷ rules) = bit (test rule) + 2 * bits_of test rules

-- a bit is set, or not
abbrev pub marked : ℕ → ℕ → Bool → ℕ
marked word place sets = if sets then bit_or word (2 ^ place) else word

-- each cell of each block has the bits of the rules that allow it
pub record IsTable (rows : List RuleRow) (blocks : List (List ℕ)) : Type 0 where
  pub room : length rows ≤ 64 * length blocks
  pub full : 64 * length blocks ≤ length rows + 64
  pub patterns : All (λ row. length row.heading ≡ 11) rows
  pub cells : (n cell : ℕ) → n < length blocks → cell < 473
      → slice_index (slice_index_or blocks n []) cell ≡ bits_of (λ row. allows row.heading cell) (take 64 (drop (64 * n) rows))

-- those of some rules that allow all of these cells
abbrev pub meet : List ℕ → List ℕ → ℕ → ℕ
meet block [] rules = rules
meet block (cell ∷ cells) rules = meet block cells (bit_and rules (slice_index block cell))

-- the rules of a block that allow all of these cells
abbrev pub fitting : List ℕ → List ℕ → ℕ
fitting block [] = 0
fitting block (cell ∷ cells) = meet block cells (slice_index block cell)

-- a bit of the circuits of the rules whose bits are set
abbrev pub joined : List RuleRow → ℕ → ℕ → ℕ
joined [] fits k = 0
joined (rule ∷ rules) fits k = max (min (fits % 2) (bit_at rule.to k)) (joined rules (fits / 2) k)
