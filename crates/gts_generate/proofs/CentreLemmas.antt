-- The rows of the directory, one behind another, and the directory that they are.
use Rattle.gts_generate.proofs.Cited.{◌≡◌, ℕ, zero, suc, ◌+◌, ◌%◌, ◌<◌, bit_or, List, [], ◌∷◌, ◌++◌, map, refl, sym, ◌∙◌, ap, subst, arith, ◌^◌, Result, Ok, Err, codes, replicate, CircuitRow, DirFault, Directory, Rows, RuleRow, checked, circuit_row, dec, directory, level_rows, localhost, no_rows, range_with_len, rows, rule_row, map-range_with_len_more, common_steps}

-- one row of many behind others
row-more : {A : Type 0} (f : ℕ → A) (front : List A) (j : ℕ) (row : A) → row ≡ f j
    → (front ++ map f (range_with_len 0 j)) ++ row ∷ [] ≡ front ++ map f (range_with_len 0 (j + 1))
row-more f front j row is = grind (arith, common_steps, map-range_with_len_more)

pub circuit-added : (first old new : Rows) (j : ℕ) (row : CircuitRow)
    → old ≡ record first { circuits = first.circuits ++ map circuit_row (range_with_len 0 j) } → row ≡ circuit_row j
    → new ≡ record old { circuits = old.circuits ++ row ∷ [] }
    → new ≡ record first { circuits = first.circuits ++ map circuit_row (range_with_len 0 (j + 1)) }
circuit-added first old new j row before is done = grind (arith, common_steps, row-more)

pub rule-added : (first old new : Rows) (j : ℕ) (row : RuleRow)
    → old ≡ record first { rules = first.rules ++ map rule_row (range_with_len 0 j) } → row ≡ rule_row j
    → new ≡ record old { rules = old.rules ++ row ∷ [] }
    → new ≡ record first { rules = first.rules ++ map rule_row (range_with_len 0 (j + 1)) }
rule-added first old new j row before is done = grind (arith, common_steps, row-more)

-- two of the eight circuits, as a set
two_of_eight : (m : ℕ) → m < 8 → bit_or (bit_or 0 (2 ^ m)) (2 ^ ((m + 3) % 8)) ≡ 2 ^ m + 2 ^ ((m + 3) % 8)
two_of_eight zero low = refl
two_of_eight (suc zero) low = refl
two_of_eight (suc (suc zero)) low = refl
two_of_eight (suc (suc (suc zero))) low = refl
two_of_eight (suc (suc (suc (suc zero)))) low = refl
two_of_eight (suc (suc (suc (suc (suc zero))))) low = refl
two_of_eight (suc (suc (suc (suc (suc (suc zero)))))) low = refl
two_of_eight (suc (suc (suc (suc (suc (suc (suc zero))))))) low = refl
two_of_eight (suc (suc (suc (suc (suc (suc (suc (suc m)))))))) low = absurd (omega arith)

pub circuits_of_rule : (j : ℕ) → bit_or (bit_or 0 (2 ^ (j % 8))) (2 ^ ((j + 3) % 8)) ≡ 2 ^ (j % 8) + 2 ^ ((j + 3) % 8)
circuits_of_rule j =
    let same : (j + 3) % 8 ≡ (j % 8 + 3) % 8 = omega arith in
    rw same (two_of_eight (j % 8) (omega arith))

-- the rows are accepted, and are the directory
pub rows-are : checked rows ≡ Ok directory
unfolding dec
rows-are = refl

-- the rows, as they are put together
pub rows-made : (r₀ r₁ r₂ r₃ : Rows) → r₀ ≡ no_rows (codes "TVSV") 1000 (2 ^ 30) localhost (replicate 32 0)
    → r₁ ≡ record r₀ { circuits = r₀.circuits ++ map circuit_row (range_with_len 0 8) }
    → r₂ ≡ record r₁ { rules = r₁.rules ++ map rule_row (range_with_len 0 60) }
    → r₃ ≡ record r₂ { levels = r₂.levels ++ level_rows } → r₃ ≡ rows
rows-made r₀ r₁ r₂ r₃ empty circuits rules levels = grind (arith, common_steps)

-- what is read of these rows
pub directory-read : (r : Rows) (d : Directory) → r ≡ rows → checked r ≡ Ok d → d ≡ directory
directory-read r d is read =
    ap (λ (answer : Result Directory DirFault). elim answer [ Ok found ↦ found | Err _ ↦ directory ])
    (sym read ∙ ap checked is ∙ rows-are)

abbrev no-directory : Result Directory DirFault → Type 0
no-directory (Ok _) = ⊥
no-directory (Err _) = Unit {0}

pub no-fault : (r : Rows) (fault : DirFault) → r ≡ rows → checked r ≡ Err fault → ⊥
no-fault r fault is read = subst no-directory (sym read ∙ ap checked is ∙ rows-are) tt
