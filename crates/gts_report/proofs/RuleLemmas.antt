-- Rules as rows with masks, and the names of their circuits.
use Rattle.gts_report.proofs.Cited.{◌≡◌, ℕ, zero, suc, ◌+◌, ◌^◌, ◌<◌, ◌≤◌, Bool, true, false, cond, ◌==◌, ◌&&◌, ◌||◌, nat_eq, List, [], ◌∷◌, ◌++◌, length, map, filter, refl, sym, ap, ◌∙◌, arith, All, AreRulesOf, Directory, RuleRow, bit, bit_at, circuits_in, has_rule, list_any, mask_of, name_text, names_text, pointwise, range_with_len, row_of, rule_of_row, same_rule, flat_map-append, map-id, append-nil, filter_of_map_range_with_len_more, bit_at-lt, bit_at_above}

-- ---- names

-- one circuit more
circuits_more : (mask n : ℕ) → circuits_in (n + 1) mask ≡ circuits_in n mask ++ cond (bit_at mask n == 1) (n ∷ []) []
circuits_more mask n =
    let p : ℕ → Bool = λ c. bit_at mask c == 1 in
    let more = filter_of_map_range_with_len_more p (λ (x : ℕ). x) 0 n n (omega arith) in
    ap (filter p) (sym (map-id (range_with_len 0 (n + 1)))) ∙ more
    ∙ ap (λ (l : List ℕ). filter p l ++ cond (p n) (n ∷ []) []) (map-id (range_with_len 0 n))

one_name : (d : Directory) (c : ℕ) (b : Bool) → names_text d (cond b (c ∷ []) []) ≡ cond b (32 ∷ (row_of d c).name) []
one_name d c true = append-nil (32 ∷ (row_of d c).name)
one_name d c false = refl

-- one name more
pub names_more : (d : Directory) (mask n : ℕ) → names_text d (circuits_in (n + 1) mask) ≡ names_text d (circuits_in n mask) ++ name_text d mask n
names_more d mask n =
    ap (names_text d) (circuits_more mask n)
    ∙ flat_map-append (λ c. 32 ∷ (row_of d c).name) (circuits_in n mask) (cond (bit_at mask n == 1) (n ∷ []) [])
    ∙ ap (λ (l : List ℕ). names_text d (circuits_in n mask) ++ l) (one_name d n (bit_at mask n == 1))

-- ---- rules

-- what the law on masks says
abbrev pub Told : Type 0
Told =
    (test : ℕ → Bool) (mask n : ℕ) → ((k : ℕ) → k < n → bit_at mask k ≡ bit (test k)) → ((k : ℕ) → n ≤ k → bit_at mask k ≡ 0)
    → mask ≡ mask_of (filter test (range_with_len 0 n))

bit_is : (b : ℕ) → b < 2 → b ≡ bit (b == 1)
bit_is zero low = refl
bit_is (suc zero) low = refl
bit_is (suc (suc b)) low = absurd (omega (arith, low))

-- the circuits of a mask have that mask
mask_back : Told → (mask n : ℕ) → mask < 2 ^ n → mask_of (circuits_in n mask) ≡ mask
mask_back told mask n low =
    sym (told (λ c. bit_at mask c == 1) mask n (λ k within. bit_is (bit_at mask k) (bit_at-lt mask k)) (λ k over. bit_at_above mask n k low over))

-- two rows agree where their rules do
same_row : Told → (n m : ℕ) (a b : RuleRow) → a.to < 2 ^ n → b.to < 2 ^ m
    → (pointwise nat_eq a.heading b.heading && (a.to == b.to)) ≡ same_rule (rule_of_row n a) (rule_of_row m b)
same_row told n m a b low few =
    ap (λ (k : ℕ). pointwise nat_eq a.heading b.heading && (k == b.to)) (sym (mask_back told a.to n low))
    ∙ ap (λ (k : ℕ). pointwise nat_eq a.heading b.heading && (mask_of (circuits_in n a.to) == k)) (sym (mask_back told b.to m few))

among_rows : Told → (n m : ℕ) (a : RuleRow) (rows : List RuleRow) → a.to < 2 ^ n → All (λ row. row.to < 2 ^ m) rows
    → list_any (λ b. pointwise nat_eq a.heading b.heading && (a.to == b.to)) rows ≡ list_any (same_rule (rule_of_row n a)) (map (rule_of_row m) rows)
among_rows told n m a [] low all = refl
among_rows told n m a (b ∷ rows) low all =
    ap (λ (t : Bool). t || list_any (λ b. pointwise nat_eq a.heading b.heading && (a.to == b.to)) rows) (same_row told n m a b low (all 0 b (omega arith)))
    ∙ ap (λ (t : Bool). same_rule (rule_of_row n a) (rule_of_row m b) || t) (among_rows told n m a rows low (λ k d within. all (suc k) d (omega (arith, within))))

-- a row stands among others where its rule does
pub among_is : Told → (n : ℕ) (a : RuleRow) (rows : List RuleRow) (other : Directory) → a.to < 2 ^ n → AreRulesOf rows other
    → list_any (λ b. pointwise nat_eq a.heading b.heading && (a.to == b.to)) rows ≡ has_rule other.rules (rule_of_row n a)
among_is told n a rows other low are =
    among_rows told n (length other.circuits) a rows low are.within ∙ ap (list_any (same_rule (rule_of_row n a))) are.same
