-- The cells of a heading against a pattern, and the table as rules are added and looked up.
use Rattle.gts_directory.proofs.Cited.{◌≡◌, ℕ, suc, ◌+◌, ◌*◌, ◌/◌, ◌%◌, ◌^◌, ◌<◌, ◌≤◌, max, Bool, true, false, ◌&&◌, ◌||◌, ◌==◌, List, [], ◌∷◌, ◌++◌, length, take, drop, get_or, set, replicate, bit_or, refl, sym, ◌∙◌, ap, arith, inl, inr, length-append, length-drop, length-set, All, AreCharacters, HeadingFields, IsCharacter, IsTable, RuleRow, allows, bit, bit_at, bits_of, cell_of, cells_of, dec, fitting, has_bit, joined, list_all, list_any, marked, matches, meet, pow-le-pow_right, take-add, cases_eq, bit_at_or, get_or_read, get_or-drop, get_or-take, get_or_append_left, get_or_at, get_or-replicate, get_or-set_same, get_or-set_other, take_all, drop_all, take-append-le, drop-append-le, length-take, All-push, list_any-append, common_steps}
use Rattle.gts_directory.proofs.TableLemmas.{bits_of-agree, bits_of-lt, bits_of-push, meet-bits, joined-none, joined-bits}

allows-cell : (pattern : List ℕ) (place character : ℕ) → IsCharacter character
    → allows pattern (cell_of place character) ≡ ((get_or pattern place 0 == 42) || (get_or pattern place 0 == character))
allows-cell pattern place character is = grind (arith, common_steps)

by_parts : (a b c d e f g h i j : Bool)
    → (a && (b && (c && (d && (e && (f && (g && (h && (i && (j && true))))))))))
    ≡ ((a && (b && true)) && (c && (d && true)) && (e && (f && true)) && (g && (h && (i && (j && true)))))
by_parts false b c d e f g h i j = refl
by_parts true false c d e f g h i j = refl
by_parts true true false d e f g h i j = refl
by_parts true true true false e f g h i j = refl
by_parts true true true true false f g h i j = refl
by_parts true true true true true false g h i j = refl
by_parts true true true true true true g h i j = refl

second : (text : List ℕ) → get_or text 1 0 ≡ get_or (drop 1 text) 0 0
second text = sym (get_or-drop 1 text 0 0)

third : (text : List ℕ) → get_or text 2 0 ≡ get_or (drop 1 (drop 1 text)) 0 0
third text = sym (get_or-drop 1 (drop 1 text) 0 0 ∙ get_or-drop 1 text 1 0)

fourth : (text : List ℕ) → get_or text 3 0 ≡ get_or (drop 1 (drop 1 (drop 1 text))) 0 0
fourth text = sym (get_or-drop 1 (drop 1 (drop 1 text)) 0 0 ∙ get_or-drop 1 (drop 1 text) 1 0 ∙ get_or-drop 1 text 2 0)

-- a pattern allows the cells of the headings that it matches
allows-matches : (pattern : List ℕ) (h : HeadingFields) → length pattern ≡ 11 → AreCharacters h → list_all (allows pattern) (cells_of h) ≡ matches pattern h
allows-matches (a ∷ b ∷ c ∷ d ∷ e ∷ f ∷ g ∷ p ∷ q ∷ r ∷ s ∷ []) h eleven text =
    let pattern : List ℕ = a ∷ b ∷ c ∷ d ∷ e ∷ f ∷ g ∷ p ∷ q ∷ r ∷ s ∷ [] in
    let fits : ℕ → ℕ → Bool = λ expected n. (expected == 42) || (expected == n) in
    let ii : List ℕ = dec 2 h.ii in
    rw (
      allows-cell pattern 0 (get_or h.tt 0 0) text.type_first,
      allows-cell pattern 1 (get_or h.tt 1 0) text.type_second ∙ ap (fits b) (second h.tt),
      allows-cell pattern 2 (get_or h.aa 0 0) text.area_first,
      allows-cell pattern 3 (get_or h.aa 1 0) text.area_second ∙ ap (fits d) (second h.aa),
      allows-cell pattern 4 (get_or ii 0 0) text.number_first,
      allows-cell pattern 5 (get_or ii 1 0) text.number_second ∙ ap (fits f) (second ii),
      allows-cell pattern 7 (get_or h.cccc 0 0) text.centre_first,
      allows-cell pattern 8 (get_or h.cccc 1 0) text.centre_second ∙ ap (fits q) (second h.cccc),
      allows-cell pattern 9 (get_or h.cccc 2 0) text.centre_third ∙ ap (fits r) (third h.cccc),
      allows-cell pattern 10 (get_or h.cccc 3 0) text.centre_fourth ∙ ap (fits s) (fourth h.cccc),
    )
    (by_parts (fits a (get_or h.tt 0 0)) (fits b (get_or (drop 1 h.tt) 0 0)) (fits c (get_or h.aa 0 0)) (fits d (get_or (drop 1 h.aa) 0 0))
    (fits e (get_or ii 0 0)) (fits f (get_or (drop 1 ii) 0 0)) (fits p (get_or h.cccc 0 0)) (fits q (get_or (drop 1 h.cccc) 0 0))
    (fits r (get_or (drop 1 (drop 1 h.cccc)) 0 0)) (fits s (get_or (drop 1 (drop 1 (drop 1 h.cccc))) 0 0)))
allows-matches (a ∷ b ∷ c ∷ d ∷ e ∷ f ∷ g ∷ p ∷ q ∷ r ∷ s ∷ t ∷ more) h eleven text = absurd (omega arith)
allows-matches _ h eleven text = absurd (omega arith)

-- the rules of a block that match
pub fitting-matches : (rows : List RuleRow) (blocks : List (List ℕ)) (h : HeadingFields) (n : ℕ) → IsTable rows blocks → n < length blocks → AreCharacters h
    → All (λ cell. cell < 473) (cells_of h)
    → fitting (get_or blocks n []) (cells_of h) ≡ bits_of (λ row. matches row.heading h) (take 64 (drop (64 * n) rows))
fitting-matches rows blocks h n is within text inside =
    let block : List ℕ = get_or blocks n [] in
    let rules : List RuleRow = take 64 (drop (64 * n) rows) in
    let first : ℕ = cell_of 0 (get_or h.tt 0 0) in
    let others : List ℕ = drop 1 (cells_of h) in
    let marks : (cell : ℕ) → cell < 473 → get_or block cell 0 ≡ bits_of (λ row. allows row.heading cell) rules = λ cell below. is.cells n cell within below in
    ap (meet block others) (marks first (inside 0 0 (omega arith)))
    ∙ meet-bits block others (λ row. allows row.heading first) rules marks (λ k d below. inside (suc k) d (omega arith))
    ∙ bits_of-agree (λ row. allows row.heading first && list_all (allows row.heading) others) (λ row. matches row.heading h) rules
    (λ k d below.
    let few : k < 64 = omega (arith, length-take 64 (drop (64 * n) rows)) in
    let there : 64 * n + k < length rows = omega (arith, length-take 64 (drop (64 * n) rows), length-drop (64 * n) rows) in
    rw (get_or-take 64 (drop (64 * n) rows) k d few, get_or-drop (64 * n) rows k d)
    (allows-matches (get_or rows (64 * n + k) d).heading h (is.patterns (64 * n + k) d there) text))

-- a block without bits, where every rule stands in an earlier one
pub IsTable-more : (rows : List RuleRow) (blocks : List (List ℕ)) → IsTable rows blocks → length rows / 64 ≡ length blocks
    → IsTable rows (blocks ++ replicate 473 0 ∷ [])
IsTable-more rows blocks is whole =
    let longer : length (blocks ++ replicate 473 0 ∷ []) ≡ length blocks + 1 = length-append blocks (replicate 473 0 ∷ []) in
    record {
      room = omega (arith, longer, is.room);
      full = omega (arith, longer);
      patterns = is.patterns;
      cells = λ n cell within below. elim (cases_eq n (length blocks)) [
        | inl same ↦
            let none : drop (64 * n) rows ≡ [] = drop_all (64 * n) rows (omega (arith, is.room)) in
            rw (get_or_at blocks (replicate 473 0) [] [] n (sym same), get_or-replicate {A = ℕ} 473 cell 0 0 below, none) refl
        | inr other ↦ rw (get_or_append_left blocks (replicate 473 0 ∷ []) [] n (omega (arith, longer))) (is.cells n cell (omega (arith, longer)) below)
      ];
    }

-- the last rule of a block
last_of_block : (rows : List RuleRow) (row : RuleRow) (w : ℕ) → length rows / 64 ≡ w
    → take 64 (drop (64 * w) (rows ++ row ∷ [])) ≡ take 64 (drop (64 * w) rows) ++ row ∷ []
last_of_block rows row w here =
    let rest : List RuleRow = drop (64 * w) rows in
    let short = length-drop (64 * w) rows in
    rw (drop-append-le (64 * w) rows (row ∷ []) (omega arith), take_all 64 (rest ++ row ∷ []) (omega (arith, short, length-append rest (row ∷ []))), take_all 64 rest (omega (arith, short))) refl

-- the rules of an earlier block
earlier_block : (rows : List RuleRow) (row : RuleRow) (n : ℕ) → 64 * n + 64 ≤ length rows
    → take 64 (drop (64 * n) (rows ++ row ∷ [])) ≡ take 64 (drop (64 * n) rows)
earlier_block rows row n earlier =
    rw (drop-append-le (64 * n) rows (row ∷ []) (omega arith)) (take-append-le 64 (drop (64 * n) rows) (row ∷ []) (omega (arith, length-drop (64 * n) rows)))

-- one more rule
pub IsTable-push : (rows : List RuleRow) (blocks : List (List ℕ)) (row : RuleRow) (block : List ℕ) → IsTable rows blocks → length rows < 64 * length blocks
    → length row.heading ≡ 11
    → ((cell : ℕ) → cell < 473 → get_or block cell 0 ≡ marked (get_or (get_or blocks (length rows / 64) []) cell 0) (length rows % 64) (allows row.heading cell))
    → IsTable (rows ++ row ∷ []) (set blocks (length rows / 64) block)
IsTable-push rows blocks row block is room eleven marks =
    let longer : length (rows ++ row ∷ []) ≡ length rows + 1 = length-append rows (row ∷ []) in
    let as_many = length-set blocks (length rows / 64) block in
    record {
      room = omega (arith, longer, as_many);
      full = omega (arith, longer, as_many, is.full);
      patterns = All-push (λ rule. length rule.heading ≡ 11) rows row is.patterns eleven;
      cells = λ n cell within below. elim (cases_eq n (length rows / 64)) [
        | inl same ↦
            let rules : List RuleRow = take 64 (drop (64 * n) rows) in
            let count : length rules ≡ length rows % 64 = omega (arith, length-take 64 (drop (64 * n) rows), length-drop (64 * n) rows) in
            let set_here : get_or (set blocks (length rows / 64) block) n [] ≡ block = rw same (get_or-set_same blocks (length rows / 64) block [] (omega arith)) in
            let before : get_or (get_or blocks (length rows / 64) []) cell 0 ≡ bits_of (λ rule. allows rule.heading cell) rules =
            rw (← same) (is.cells n cell (omega (arith, as_many)) below) in
            rw (set_here, last_of_block rows row n (sym same)) (
            marks cell below ∙ rw (before, ← count) (sym (bits_of-push (λ rule. allows rule.heading cell) rules row)))
        | inr other ↦
            rw (get_or-set_other blocks (length rows / 64) n block [] other, earlier_block rows row n (omega (arith, as_many, is.full)))
            (is.cells n cell (omega (arith, as_many)) below)
      ];
    }

pub IsTable-add : (rows : List RuleRow) (blocks : List (List ℕ)) (row : RuleRow) (old block : List ℕ) (number : ℕ) → number ≡ length rows → IsTable rows blocks
    → length rows < 64 * length blocks → length row.heading ≡ 11 → old ≡ get_or blocks (number / 64) old
    → ((cell : ℕ) → cell < 473 → get_or block cell 0 ≡ marked (get_or old cell 0) (number % 64) (allows row.heading cell))
    → IsTable (rows ++ row ∷ []) (set blocks (number / 64) block)
IsTable-add rows blocks row old block number same is room eleven read marks = grind (arith, common_steps, get_or_read, IsTable-push)

-- the circuits of the rules of one more block
pub joined-block : (rows : List RuleRow) (h : HeadingFields) (mask fits n k : ℕ) → fits ≡ bits_of (λ row. matches row.heading h) (take 64 (drop (64 * n) rows))
    → bit_at mask k ≡ bit (has_bit (take (64 * n) rows) h k) → max (bit_at mask k) (joined (drop (64 * n) rows) fits k) ≡ bit (has_bit (take (64 * n + 64) rows) h k)
joined-block rows h mask fits n k are before =
    let test : RuleRow → Bool = λ row. matches row.heading h && (bit_at row.to k == 1) in
    let here = joined-bits (λ row. matches row.heading h) (drop (64 * n) rows) 64 k in
    rw (before, are, here, take-add (64 * n) 64 rows, list_any-append test (take (64 * n) rows) (take 64 (drop (64 * n) rows)))
    (either (has_bit (take (64 * n) rows) h k) (list_any test (take 64 (drop (64 * n) rows))))
  where
    either : (a b : Bool) → max (bit a) (bit b) ≡ bit (a || b)
    either true true = refl
    either true false = refl
    either false true = refl
    either false false = refl

-- the bits of a block are those of rules that are there
pub bits_of-below : (p : RuleRow → Bool) (rules : List RuleRow) (n : ℕ) → bits_of p (take n rules) < 2 ^ length rules
bits_of-below p rules n =
    let below = bits_of-lt p (take n rules) in
    let power : 2 ^ length (take n rules) ≤ 2 ^ length rules = pow-le-pow_right (omega arith) (omega (arith, length-take n rules)) in
    omega arith

pub fits_are : (rows : List RuleRow) (blocks seen : List (List ℕ)) (h : HeadingFields) (cells : List ℕ) (n fits : ℕ) → IsTable rows blocks → seen ≡ blocks
    → cells ≡ cells_of h → AreCharacters h → All (λ cell. cell < 473) cells → n < length seen → fits ≡ fitting (get_or seen n []) cells
    → fits ≡ bits_of (λ row. matches row.heading h) (take 64 (drop (64 * n) rows))
fits_are rows blocks seen h cells n fits is same told text inside within found = grind (arith, common_steps, fitting-matches)

-- a block with rules that match
pub joined-more : (rows rest : List RuleRow) (h : HeadingFields) (mask fits here n k : ℕ) → rest ≡ drop (64 * n) rows
    → fits ≡ bits_of (λ row. matches row.heading h) (take 64 (drop (64 * n) rows)) → bit_at mask k ≡ bit (has_bit (take (64 * n) rows) h k)
    → bit_at here k ≡ joined rest fits k → bit_at (bit_or mask here) k ≡ bit (has_bit (take (64 * (n + 1)) rows) h k)
joined-more rows rest h mask fits here n k same are before told =
    let next : 64 * (n + 1) ≡ 64 * n + 64 = omega arith in
    bit_at_or mask here k ∙ rw (told, same, next) (joined-block rows h mask fits n k are before)

-- a block without
pub joined-nowhere : (rows : List RuleRow) (h : HeadingFields) (mask fits n k : ℕ) → fits ≡ 0
    → fits ≡ bits_of (λ row. matches row.heading h) (take 64 (drop (64 * n) rows)) → bit_at mask k ≡ bit (has_bit (take (64 * n) rows) h k)
    → bit_at mask k ≡ bit (has_bit (take (64 * (n + 1)) rows) h k)
joined-nowhere rows h mask fits n k none are before =
    let next : 64 * (n + 1) ≡ 64 * n + 64 = omega arith in
    let more = joined-block rows h mask fits n k are before in
    let nothing : joined (drop (64 * n) rows) fits k ≡ 0 = rw none (joined-none (drop (64 * n) rows) k) in
    rw next (omega arith)
