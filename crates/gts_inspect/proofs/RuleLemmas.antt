-- Which circuits a rule names, by the bits of its row.
use Rattle.gts_inspect.proofs.Cited.{◌≡◌, ◌+◌, ◌++◌, ◌<◌, ◌≤◌, ◌==◌, ◌&&◌, ◌||◌, ℕ, zero, suc, Bool, true, false, List, [], ◌∷◌, map, filter, refl, sym, ap, ◌∙◌, arith, RuleRow, bit_at, list_all, list_all-append, list_any, list_any-append, map-id, map-range_with_len_more, names, range_with_len, rule_of_row, cases_eq, common_steps, nat_tests}

-- a number is among those of some that pass a test
among_passed : (test : ℕ → Bool) (c : ℕ) (xs : List ℕ) → list_any (λ to. to == c) (filter test xs) ≡ (test c && list_any (λ to. to == c) xs)
among_passed test c [] = grind (arith, common_steps, cases_eq)
among_passed test c (x ∷ xs) = let rest = among_passed test c xs in grind (arith, common_steps, cases_eq, nat_tests)

-- a number is among all from a on
among_all : (a n c : ℕ) → a ≤ c → c < a + n → list_any (λ to. to == c) (range_with_len a n) ≡ true
among_all a zero c from to = absurd (omega (arith, from, to))
among_all a (suc n) c from to = grind (arith, common_steps, cases_eq, nat_tests, among_all (suc a) n c)

-- a rule names the circuits of its bits
pub names_is : (n c : ℕ) (row : RuleRow) → c < n → names c (rule_of_row n row) ≡ (bit_at row.to c == 1)
names_is n c row within =
    let passed = among_passed (λ k. bit_at row.to k == 1) c (range_with_len 0 n) in
    let all = among_all 0 n c (omega arith) (omega (arith, within)) in
    grind (arith, common_steps, cases_eq)

pub named_by_rows : (n c : ℕ) (rows : List RuleRow) → c < n
    → list_any (names c) (map (rule_of_row n) rows) ≡ list_any (λ row. bit_at row.to c == 1) rows
named_by_rows n c [] within = refl
named_by_rows n c (row ∷ rows) within =
    ap (λ (here : Bool). here || list_any (names c) (map (rule_of_row n) rows)) (names_is n c row within)
    ∙ ap (λ (rest : Bool). (bit_at row.to c == 1) || rest) (named_by_rows n c rows within)

-- ---- one number more

range_more : (n : ℕ) → range_with_len 0 (n + 1) ≡ range_with_len 0 n ++ n ∷ []
range_more n =
    sym (map-id (range_with_len 0 (n + 1))) ∙ map-range_with_len_more (λ (x : ℕ). x) 0 n n (omega arith)
    ∙ ap (λ (l : List ℕ). l ++ n ∷ []) (map-id (range_with_len 0 n))

or_false : (b : Bool) → (b || false) ≡ b
or_false true = refl
or_false false = refl

and_true : (b : Bool) → (b && true) ≡ b
and_true true = refl
and_true false = refl

-- one element more
pub any_last : {A : Type 0} (test : A → Bool) (xs : List A) (x : A) → list_any test (xs ++ x ∷ []) ≡ (list_any test xs || test x)
any_last test xs x = list_any-append test xs (x ∷ []) ∙ ap (λ (b : Bool). list_any test xs || b) (or_false (test x))

pub any_more : (test : ℕ → Bool) (n : ℕ) → list_any test (range_with_len 0 (n + 1)) ≡ (list_any test (range_with_len 0 n) || test n)
any_more test n = ap (list_any test) (range_more n) ∙ any_last test (range_with_len 0 n) n

pub all_more : (test : ℕ → Bool) (n : ℕ) → list_all test (range_with_len 0 (n + 1)) ≡ (list_all test (range_with_len 0 n) && test n)
all_more test n =
    ap (list_all test) (range_more n) ∙ list_all-append test (range_with_len 0 n) (n ∷ [])
    ∙ ap (λ (b : Bool). list_all test (range_with_len 0 n) && b) (and_true (test n))
