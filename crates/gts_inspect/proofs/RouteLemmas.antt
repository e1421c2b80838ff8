-- Where a bulletin goes, one circuit or one rule more.
use Rattle.gts_inspect.proofs.Cited.{◌≡◌, ◌+◌, ◌++◌, ◌<◌, ◌≤◌, ◌==◌, ◌&&◌, ◌||◌, ℕ, get_or, length-take-le, take, take_more, suc, zero, Bool, true, false, cond, List, [], ◌∷◌, filter, length, map, refl, sym, ap, ◌∙◌, append_assoc, append-nil, arith, AreRulesOf, Directory, HeadingFields, RuleRow, bit, bit_at, filter_of_map_range_with_len_more, is_named, is_reached, list_any, map-id, mask_of, matches, named, names, places, range_with_len, rule_of_row}
use Rattle.gts_inspect.proofs.RuleLemmas.{names_is}

-- one number more that may pass a test
pub filter_more : (test : ℕ → Bool) (n : ℕ) → filter test (range_with_len 0 (n + 1)) ≡ filter test (range_with_len 0 n) ++ cond (test n) (n ∷ []) []
filter_more test n =
    ap (filter test) (sym (map-id (range_with_len 0 (n + 1)))) ∙ filter_of_map_range_with_len_more test (λ (x : ℕ). x) 0 n n (omega arith)
    ∙ ap (λ (l : List ℕ). filter test l ++ cond (test n) (n ∷ []) []) (map-id (range_with_len 0 n))

pub filter_with : (test : ℕ → Bool) (n : ℕ) → test n ≡ true → filter test (range_with_len 0 (n + 1)) ≡ filter test (range_with_len 0 n) ++ n ∷ []
filter_with test n passes = filter_more test n ∙ ap (λ (b : Bool). filter test (range_with_len 0 n) ++ cond b (n ∷ []) []) passes

pub filter_without : (test : ℕ → Bool) (n : ℕ) → test n ≡ false → filter test (range_with_len 0 (n + 1)) ≡ filter test (range_with_len 0 n)
filter_without test n fails =
    filter_more test n ∙ ap (λ (b : Bool). filter test (range_with_len 0 n) ++ cond b (n ∷ []) []) fails ∙ append-nil (filter test (range_with_len 0 n))

-- two tests that agree from a on pass the same
same_passed : (p q : ℕ → Bool) (a n : ℕ) → ((k : ℕ) → a ≤ k → k < a + n → p k ≡ q k) → filter p (range_with_len a n) ≡ filter q (range_with_len a n)
same_passed p q a zero same = refl
same_passed p q a (suc n) same =
    let rest = same_passed p q (a + 1) n (λ k from to. same k (omega (arith, from)) (omega (arith, to))) in
    ap (λ (b : Bool). cond b (a ∷ filter p (range_with_len (a + 1) n)) (filter p (range_with_len (a + 1) n))) (same a (omega arith) (omega arith))
    ∙ ap (λ (l : List ℕ). cond (q a) (a ∷ l) l) rest

bit_is : (b : Bool) → (bit b == 1) ≡ b
bit_is true = refl
bit_is false = refl

-- the circuits whose bits the mask has are those that are named
pub mask_named : (d : Directory) (from : ℕ) (h : HeadingFields) (mask : ℕ) → mask ≡ mask_of (named d from h)
    → ((k : ℕ) → k < length d.circuits → bit_at (mask_of (named d from h)) k ≡ bit (is_named d from h k))
    → filter (λ c. bit_at mask c == 1) (range_with_len 0 (length d.circuits)) ≡ named d from h
mask_named d from h mask is bits =
    same_passed (λ c. bit_at mask c == 1) (is_named d from h) 0 (length d.circuits)
    (λ k low within.
    ap (λ (m : ℕ). bit_at m k == 1) is ∙ ap (λ (b : ℕ). b == 1) (bits k (omega (arith, within))) ∙ bit_is (is_named d from h k))

-- one row more
pub places_more : {A : Type 0} (test : A → Bool) (n m : ℕ) (rows : List A) (row : A) → n + length rows ≡ m
    → places test n (rows ++ row ∷ []) ≡ places test n rows ++ cond (test row) (m ∷ []) []
places_more test n m [] row e =
    let is : n ≡ m = omega (arith, e) in
    append-nil (cond (test row) (n ∷ []) []) ∙ ap (λ (k : ℕ). cond (test row) (k ∷ []) []) is
places_more test n m (first ∷ rows) row e =
    ap (λ (rest : List ℕ). cond (test first) (n ∷ []) [] ++ rest) (places_more test (n + 1) m rows row (omega (arith, e)))
    ∙ sym (append_assoc (cond (test first) (n ∷ []) []) (places test (n + 1) rows) (cond (test row) (m ∷ []) []))

-- the places of rows are those of their rules
pub places_of_rules : (n k : ℕ) (h : HeadingFields) (rows : List RuleRow)
    → places (λ row. matches row.heading h) k rows ≡ places (λ rule. matches rule.heading h) k (map (rule_of_row n) rows)
places_of_rules n k h [] = refl
places_of_rules n k h (row ∷ rows) =
    ap (λ (l : List ℕ). cond (matches row.heading h) (k ∷ []) [] ++ l) (places_of_rules n (k + 1) h rows)

-- a circuit is reached by rows where their rules reach it
reached_by_rows : (n c : ℕ) (h : HeadingFields) (rows : List RuleRow) → c < n
    → list_any (λ row. matches row.heading h && (bit_at row.to c == 1)) rows
    ≡ list_any (λ rule. matches rule.heading h && names c rule) (map (rule_of_row n) rows)
reached_by_rows n c h [] within = refl
reached_by_rows n c h (row ∷ rows) within =
    ap (λ (b : Bool). (matches row.heading h && b) || list_any (λ row. matches row.heading h && (bit_at row.to c == 1)) rows)
    (sym (names_is n c row within))
    ∙ ap (λ (b : Bool). (matches row.heading h && names c (rule_of_row n row)) || b) (reached_by_rows n c h rows within)

pub reached_is : (d : Directory) (c : ℕ) (h : HeadingFields) (rows : List RuleRow) → c < length d.circuits → AreRulesOf rows d
    → list_any (λ row. matches row.heading h && (bit_at row.to c == 1)) rows ≡ is_reached d h c
reached_is d c h rows within are =
    reached_by_rows (length d.circuits) c h rows within ∙ ap (list_any (λ rule. matches rule.heading h && names c rule)) are.same

-- one row more of those that the code has
pub places_next : {A : Type 0} (test : A → Bool) (rows : List A) (k : ℕ) (row : A) → k < length rows → row ≡ get_or rows k row
    → places test 0 (take k rows) ++ cond (test row) (k ∷ []) [] ≡ places test 0 (take (k + 1) rows)
places_next {A} test rows k row within is =
    let front = take k rows in
    let more : take (k + 1) rows ≡ front ++ row ∷ [] = take_more rows k row within ∙ ap (λ (r : A). front ++ r ∷ []) (sym is) in
    let few : length front ≡ k = length-take-le k rows (omega (arith, within)) in
    sym (ap (places test 0) more ∙ places_more test 0 k front row (omega (arith, few)))
