use Rattle.gts_directory.proofs.Cited.{◌≡◌, ℕ, ◌+◌, ◌/◌, ◌%◌, [], ◌∷◌, refl, ◌∙◌, arith}
use Rattle.gts_alphabet.specs.Digits.{dec}
use Rattle.gts_directory.proofs.table.cells_of.Goals as goal

dec-two : (n : ℕ) → dec 2 n ≡ (48 + n / 10 % 10) ∷ (48 + n % 10) ∷ []
unfolding dec
dec-two n = refl

pub cell-requires-5-clause-character : goal.cell-requires-5-clause-character
cell-requires-5-clause-character c = rw (c.digits_of-ii.ensures ∙ dec-two c.from.result) (omega arith, omega arith)

pub cell-requires-6-clause-character : goal.cell-requires-6-clause-character
cell-requires-6-clause-character c = rw (c.digits_of-ii.ensures ∙ dec-two c.from.result) (omega arith, omega arith)
