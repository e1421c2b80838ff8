-- Bits of rules: of those that pass a test, of those that pass two, and of those that a heading's cells leave.
use Rattle.gts_directory.proofs.Cited.{◌≡◌, ◌≢◌, ℕ, zero, suc, ◌+◌, ◌-◌, ◌*◌, ◌/◌, ◌%◌, ◌^◌, ◌<◌, ◌≤◌, min, max, Bool, true, false, ◌&&◌, ◌||◌, ◌==◌, nat_lt, List, [], ◌∷◌, ◌++◌, length, take, drop, get_or, bit_and, bit_or, refl, sym, ◌∙◌, ap, arith, inl, inr, All, RuleRow, allows, bit, bit_at, bits_of, fitting, joined, list_all, list_any, marked, meet, trailing_zeros, w64, pow-suc, cases_Bool, ltb-true, nat_tests, or_comm, or_shifted, one_shl, bit_at_or, bit_at-trailing_zeros, bit_at_lowest, bit_at-suc, bit_at-zero, bit_at_and, bit_at-lt, bit_at_above, same_from_bits, common_steps}

half : (b : Bool) (n : ℕ) → (bit b + 2 * n) / 2 ≡ n
half true n = omega arith
half false n = omega arith

last : (b : Bool) (n : ℕ) → (bit b + 2 * n) % 2 ≡ bit b
last true n = omega arith
last false n = omega arith

min-bits : (a b : Bool) → bit (a && b) ≡ min (bit a) (bit b)
min-bits true true = refl
min-bits true false = refl
min-bits false true = refl
min-bits false false = refl

lowest_bit : (b : Bool) (n : ℕ) → bit_at (bit b + 2 * n) 0 ≡ bit b
lowest_bit b n = bit_at_lowest (bit b + 2 * n) ∙ last b n

higher_bit : (b : Bool) (n i : ℕ) → bit_at (bit b + 2 * n) (suc i) ≡ bit_at n i
higher_bit b n i = bit_at-suc (bit b + 2 * n) i ∙ ap (λ m. bit_at m i) (half b n)

bit_at-both : (p q : RuleRow → Bool) (rules : List RuleRow) (i : ℕ)
    → bit_at (bits_of (λ row. p row && q row) rules) i ≡ min (bit_at (bits_of p rules) i) (bit_at (bits_of q rules) i)
bit_at-both p q [] i = let none = bit_at-zero i in rw none refl
bit_at-both p q (rule ∷ rules) zero = grind (arith, common_steps, lowest_bit, min-bits)
bit_at-both p q (rule ∷ rules) (suc i) = grind (arith, common_steps, higher_bit, bit_at-both p q rules i)

-- the rules that pass both tests
bits_of-and : (p q : RuleRow → Bool) (rules : List RuleRow) → bit_and (bits_of p rules) (bits_of q rules) ≡ bits_of (λ row. p row && q row) rules
bits_of-and p q rules = same_from_bits _ _ (λ i. bit_at_and (bits_of p rules) (bits_of q rules) i ∙ sym (bit_at-both p q rules i))

pub bits_of-same : (p q : RuleRow → Bool) (rules : List RuleRow) → ((row : RuleRow) → p row ≡ q row) → bits_of p rules ≡ bits_of q rules
bits_of-same p q [] same = refl
bits_of-same p q (rule ∷ rules) same = rw (same rule, bits_of-same p q rules same) refl

-- tests that agree at each of these rules
pub bits_of-agree : (p q : RuleRow → Bool) (rules : List RuleRow) → All (λ row. p row ≡ q row) rules → bits_of p rules ≡ bits_of q rules
bits_of-agree p q [] same = refl
bits_of-agree p q (rule ∷ rules) same =
    rw (same 0 rule (omega arith), bits_of-agree p q rules (λ k d within. same (suc k) d (omega arith))) refl

pub bits_of-lt : (p : RuleRow → Bool) (rules : List RuleRow) → bits_of p rules < 2 ^ length rules
bits_of-lt p [] = omega arith
bits_of-lt p (rule ∷ rules) =
    let rest = bits_of-lt p rules in
    let power : 2 ^ (suc (length rules)) ≡ 2 ^ length rules * 2 = pow-suc 2 (length rules) in
    elim (cases_Bool (p rule)) [
      | inl passes ↦ rw passes (omega arith)
      | inr fails ↦ rw fails (omega arith)
    ]

bits_of-last : (p : RuleRow → Bool) (rules : List RuleRow) (rule : RuleRow)
    → bits_of p (rules ++ rule ∷ []) ≡ bit (p rule) * 2 ^ length rules + bits_of p rules
bits_of-last p [] rule = omega arith
bits_of-last p (first ∷ rules) rule =
    let rest = bits_of-last p rules rule in
    let power : 2 ^ (suc (length rules)) ≡ 2 ^ length rules * 2 = pow-suc 2 (length rules) in
    elim (cases_Bool (p rule)) [
      | inl passes ↦ let more = rw passes at rest in rw (passes, more) (omega arith)
      | inr fails ↦ let more = rw fails at rest in rw (fails, more) (omega arith)
    ]

-- one more rule
pub bits_of-push : (p : RuleRow → Bool) (rules : List RuleRow) (rule : RuleRow)
    → bits_of p (rules ++ rule ∷ []) ≡ marked (bits_of p rules) (length rules) (p rule)
bits_of-push p rules rule =
    let more = bits_of-last p rules rule in
    elim (cases_Bool (p rule)) [
      | inl passes ↦
          let sum = rw passes at more in
          rw passes (sum ∙ sym (or_comm (bits_of p rules) (2 ^ length rules) ∙ ap (λ n. bit_or n (bits_of p rules)) (omega arith) ∙ or_shifted 1 (length rules) (bits_of p rules) (bits_of-lt p rules)))
      | inr fails ↦ let sum = rw fails at more in rw fails (sum ∙ omega arith)
    ]

and_true : (a : Bool) → a ≡ (a && true)
and_true true = refl
and_true false = refl

and_assoc : (a b c : Bool) → ((a && b) && c) ≡ (a && (b && c))
and_assoc true b c = refl
and_assoc false b c = refl

-- the rules that are left are those that allow every cell
pub meet-bits : (block cells : List ℕ) (p : RuleRow → Bool) (rules : List RuleRow)
    → ((cell : ℕ) → cell < 473 → get_or block cell 0 ≡ bits_of (λ row. allows row.heading cell) rules) → All (λ cell. cell < 473) cells
    → meet block cells (bits_of p rules) ≡ bits_of (λ row. p row && list_all (allows row.heading) cells) rules
meet-bits block [] p rules marks inside = bits_of-same p (λ row. p row && true) rules (λ row. and_true (p row))
meet-bits block (cell ∷ cells) p rules marks inside =
    let q : RuleRow → Bool = λ row. allows row.heading cell in
    ap (λ n. meet block cells (bit_and (bits_of p rules) n)) (marks cell (inside 0 0 (omega arith)))
    ∙ ap (meet block cells) (bits_of-and p q rules)
    ∙ meet-bits block cells (λ row. p row && q row) rules marks (λ k d within. inside (suc k) d (omega arith))
    ∙ bits_of-same (λ row. (p row && q row) && list_all (allows row.heading) cells) (λ row. p row && (q row && list_all (allows row.heading) cells)) rules
    (λ row. and_assoc (p row) (q row) (list_all (allows row.heading) cells))

-- of no rules none are left
pub meet-none : (block cells : List ℕ) → meet block cells 0 ≡ 0
meet-none block [] = refl
meet-none block (cell ∷ cells) = grind (arith, common_steps, same_from_bits, bit_at_and, bit_at-zero, meet-none block cells)

-- the first two cells, and the others
pub fitting-two : (block cells : List ℕ) → 2 ≤ length cells
    → fitting block cells ≡ meet block (drop 2 cells) (bit_and (get_or block (get_or cells 0 0) 0) (get_or block (get_or cells 1 0) 0))
fitting-two block [] more = absurd (omega arith)
fitting-two block (first ∷ []) more = absurd (omega arith)
fitting-two block (first ∷ second ∷ cells) more = refl

-- no rules, no circuits
pub joined-none : (rules : List RuleRow) (k : ℕ) → joined rules 0 k ≡ 0
joined-none [] k = refl
joined-none (rule ∷ rules) k = let rest = joined-none rules k in omega arith

power_within : (n i : ℕ) → bit_at n i ≡ 1 → 2 ^ i ≤ n
power_within n i set = grind (arith, common_steps, cases_Bool, bit_at_above, ltb-true, nat_tests)

-- a rule whose bit is set, and the others
pub joined-split : (rules : List RuleRow) (fits i k : ℕ) (d : RuleRow) → bit_at fits i ≡ 1 → i < length rules
    → joined rules fits k ≡ max (bit_at (get_or rules i d).to k) (joined rules (fits - 2 ^ i) k)
joined-split [] fits i k d set within = absurd (omega arith)
joined-split (rule ∷ rules) fits zero k d set within = grind (arith, common_steps, bit_at_lowest, bit_at-lt)
joined-split (rule ∷ rules) fits (suc i) k d set within =
    let set_above : bit_at (fits / 2) i ≡ 1 = sym (bit_at-suc fits i) ∙ set in
    let rest = joined-split rules (fits / 2) i k d set_above (omega arith) in
    let enough = power_within (fits / 2) i set_above in
    let power : 2 ^ (suc i) ≡ 2 ^ i * 2 = pow-suc 2 i in
    let same_last : (fits - 2 ^ (suc i)) % 2 ≡ fits % 2 = rw power (omega arith) in
    let same_rest : (fits - 2 ^ (suc i)) / 2 ≡ fits / 2 - 2 ^ i = rw power (omega arith) in
    rw (same_last, same_rest, rest) (omega arith)

max-any : (passes any : Bool) (n k : ℕ) → max (min (bit passes) (bit_at n k)) (bit any) ≡ bit ((passes && (bit_at n k == 1)) || any)
max-any true true n k = grind (arith, nat_tests, bit_at-lt n k)
max-any true false n k = grind (arith, nat_tests, bit_at-lt n k)
max-any false true n k = omega arith
max-any false false n k = omega arith

-- the rules that pass a test, of the first n
pub joined-bits : (p : RuleRow → Bool) (rules : List RuleRow) (n k : ℕ)
    → joined rules (bits_of p (take n rules)) k ≡ bit (list_any (λ row. p row && (bit_at row.to k == 1)) (take n rules))
joined-bits p rules zero k = joined-none rules k
joined-bits p [] (suc n) k = refl
joined-bits p (rule ∷ rules) (suc n) k =
    rw (last (p rule) (bits_of p (take n rules)), half (p rule) (bits_of p (take n rules)), joined-bits p rules n k)
    (max-any (p rule) (list_any (λ row. p row && (bit_at row.to k == 1)) (take n rules)) rule.to k)

-- a rule's place, and the bit that its number leaves
pub record IsSet (left n i : ℕ) : Type 0 where
  pub within : i < n
  pub power : 1 * 2 ^ i % 2 ^ 64 ≡ 2 ^ i
  pub enough : 2 ^ i ≤ left
  pub here : bit_at left i ≡ 1

pub lowest_set : (left n : ℕ) → left ≢ 0 → left < 2 ^ 64 → left < 2 ^ n → IsSet left n (trailing_zeros w64 left)
lowest_set left n some fits below =
    let low = bit_at-trailing_zeros w64 left (omega arith) fits in
    let i : ℕ = trailing_zeros w64 left in
    record {
      within = elim (cases_Bool (nat_lt i n)) [
        | inl less ↦ ltb-true _ _ less
        | inr not_less ↦
            let above : n ≤ i = grind (arith, nat_tests) in
            let none = bit_at_above left n i below above in
            absurd (omega (arith, none, low.1))
      ];
      power = one_shl i 64 low.0;
      enough = power_within left i low.1;
      here = low.1;
    }

-- one of the rules is joined
pub joined-step : (rules : List RuleRow) (mask left fits i k : ℕ) (d : RuleRow) → IsSet left (length rules) i
    → max (bit_at mask k) (joined rules left k) ≡ joined rules fits k
    → max (bit_at (bit_or mask (get_or rules i d).to) k) (joined rules (left - 2 ^ i) k) ≡ joined rules fits k
joined-step rules mask left fits i k d set before =
    let split = joined-split rules left i k d set.here set.within in
    let either = bit_at_or mask (get_or rules i d).to k in
    omega (arith, split, either, before)
