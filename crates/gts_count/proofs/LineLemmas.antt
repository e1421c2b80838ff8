-- The lines of circuits and of keys, one after another.
use Rattle.gts_count.proofs.Cited.{◌≡◌, ℕ, suc, ◌+◌, ◌<◌, List, [], ◌∷◌, ◌++◌, length, map, drop, flat_map, get_or, refl, ap, ◌∙◌, arith, codes, AreInOrder, Buffer, IsSound, Less, Numbers, SortedRows, Tally, bytes_below, came, circuit_lines, circuit_text, key_line, keys, numbers_lines, numbers_text, row_in, table_of, tally_of}
use Rattle.gts_count.proofs.OrderedLemmas.{Up}
use Rattle.gts_count.proofs.KeysLemmas.{lines_are}

-- the lines that are left
abbrev pub numbers_left : List ℕ → List (Buffer (List ℕ)) → ℕ → List ℕ
numbers_left came rings c = numbers_lines c (drop c came) (drop c rings)

-- the lines from the numbers are those of what is counted
pub circuits_are : (t : Tally) (came_in : List ℕ) (rings : List (Buffer (List ℕ))) (c : ℕ) → length rings ≡ length came_in → ((i : ℕ) → i < length came_in → get_or came_in i 0 ≡ came t (c + i))
    → numbers_lines c came_in rings ≡ circuit_lines t c (map (λ q. q.items) rings)
circuits_are t [] [] c size counts = refl
circuits_are t [] (ring ∷ rings) c size counts = absurd (omega (arith, size))
circuits_are t (n ∷ came_in) [] c size counts = absurd (omega (arith, size))
circuits_are t (n ∷ came_in) (ring ∷ rings) c size counts =
    let first : c + 0 ≡ c = omega arith in
    ap (λ (x : ℕ). circuit_text c x (length ring.items) ++ numbers_lines (c + 1) came_in rings) (counts 0 (omega arith) ∙ ap (came t) first)
    ∙ ap (λ (l : List ℕ). circuit_text c (came t c) (length ring.items) ++ l)
    (circuits_are t came_in rings (c + 1) (omega (arith, size)) (λ i inside. let at : c + suc i ≡ c + 1 + i = omega arith in counts (suc i) (omega (arith, inside)) ∙ ap (came t) at))

-- the table is written from the numbers
pub text_is : (n : Numbers) (rows : SortedRows) → IsSound n → AreInOrder n.rows rows → Up (λ a b. bytes_below a b ≡ Less) (map (λ e. e.0) rows.entries) → numbers_text rows n ≡ table_of (tally_of n)
text_is n rows sound same up =
    let t : Tally = tally_of n in
    ap (λ (l : List ℕ). l ++ numbers_lines 0 n.came.items n.drawn.items ++ codes "end" ++ 10 ∷ []) (lines_are t rows (λ key. ap row_in (same key) ∙ sound.rows key) up)
    ∙ ap (λ (l : List ℕ). flat_map (key_line t) (keys t) ++ l ++ codes "end" ++ 10 ∷ [])
    (circuits_are t n.came.items n.drawn.items 0 sound.circuits.0 (λ i inside. let at : i ≡ 0 + i = omega arith in sound.came i inside ∙ ap (came t) at))
