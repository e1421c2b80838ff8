-- How many places pass a test, and which.
use Rattle.std.proofs.Common.{◌≡◌, ◌⊎◌, inl, inr, ℕ, zero, suc, ◌+◌, ◌<◌, ◌≤◌, Bool, true, false, cond, nat_lt, refl, sym, ap, ◌∙◌, add-zero, arith}
use Rattle.std.proofs.lemmas.Bool.{true≢false, ltb-true, ltb-false, false_from_ne_true}
use Rattle.gts_segments.specs.Segments.{passing}

pub passing-none : (p : ℕ → Bool) (from : ℕ) → passing p from 0 ≡ 0
unfolding passing
passing-none p from = refl

pub passing-more : (p : ℕ → Bool) (from n : ℕ) → passing p from (suc n) ≡ passing p from n + cond (p (from + n)) 1 0
unfolding passing
passing-more p from n = refl

-- one place more passes, or fails
more : (b : Bool) (n m : ℕ) → m ≡ n + cond b 1 0 → ((b ≡ true) × (m ≡ n + 1)) ⊎ ((b ≡ false) × (m ≡ n))
more true n m e = inl (refl, e)
more false n m e = inr (refl, omega (arith, e))

pub next_of : (p : ℕ → Bool) (from n : ℕ) → ((p (from + n) ≡ true) × (passing p from (suc n) ≡ passing p from n + 1)) ⊎ ((p (from + n) ≡ false) × (passing p from (suc n) ≡ passing p from n))
next_of p from n = more (p (from + n)) (passing p from n) (passing p from (suc n)) (passing-more p from n)

pub passing-le : (p : ℕ → Bool) (from n : ℕ) → passing p from n ≤ n
passing-le p from zero = omega (arith, passing-none p from)
passing-le p from (suc n) =
    elim (next_of p from n) [ inl h ↦ omega (arith, h.1, passing-le p from n) | inr h ↦ omega (arith, h.1, passing-le p from n) ]

-- a place below a limit is the last one or is below it
split_last : (i n : ℕ) → i < suc n → (i < n) ⊎ (i ≡ n)
split_last i n h =
    elim (nat_lt i n) as (λ b. nat_lt i n ≡ b → (i < n) ⊎ (i ≡ n)) [
      | true ↦ λ below. inl (ltb-true i n below)
      | false ↦ λ above. let not : n ≤ i = ltb-false i n above in inr (omega (arith, h, not))
    ] refl

-- none passes
pub none_passes : (p : ℕ → Bool) (from n : ℕ) → passing p from n ≡ 0 → (i : ℕ) → i < n → p (from + i) ≡ false
none_passes p from zero e i h = absurd (omega (arith, h))
none_passes p from (suc n) e i h =
    elim (next_of p from n) [
      | inl one ↦ absurd (omega (arith, one.1, e))
      | inr off ↦ elim (split_last i n h) [
        | inl below ↦ none_passes p from n (omega (arith, off.1, e)) i below
        | inr last ↦ ap (λ (k : ℕ). p (from + k)) last ∙ off.0
      ]
    ]

pub passes_none : (p : ℕ → Bool) (from n : ℕ) → ((i : ℕ) → i < n → p (from + i) ≡ false) → passing p from n ≡ 0
passes_none p from zero h = passing-none p from
passes_none p from (suc n) h =
    elim (next_of p from n) [
      | inl one ↦ absurd (true≢false (sym one.0 ∙ h n (omega arith)))
      | inr off ↦ off.1 ∙ passes_none p from n (λ i below. h i (omega (arith, below)))
    ]

-- each passes
pub each_passes : (p : ℕ → Bool) (from n : ℕ) → passing p from n ≡ n → (i : ℕ) → i < n → p (from + i) ≡ true
each_passes p from zero e i h = absurd (omega (arith, h))
each_passes p from (suc n) e i h =
    elim (next_of p from n) [
      | inl one ↦ elim (split_last i n h) [
        | inl below ↦ each_passes p from n (omega (arith, one.1, e)) i below
        | inr last ↦ ap (λ (k : ℕ). p (from + k)) last ∙ one.0
      ]
      | inr off ↦ absurd (omega (arith, off.1, e, passing-le p from n))
    ]

pub passes_each : (p : ℕ → Bool) (from n : ℕ) → ((i : ℕ) → i < n → p (from + i) ≡ true) → passing p from n ≡ n
passes_each p from zero h = passing-none p from
passes_each p from (suc n) h =
    elim (next_of p from n) [
      | inl one ↦ omega (arith, one.1, passes_each p from n (λ i below. h i (omega (arith, below))))
      | inr off ↦ absurd (true≢false (sym (h n (omega arith)) ∙ off.0))
    ]

-- exactly one passes
pub one_passes : (p : ℕ → Bool) (from n a : ℕ) → passing p from n ≡ 1 → a < n → p (from + a) ≡ true → (i : ℕ) → i < n → p (from + i) ≡ true → i ≡ a
one_passes p from zero a e there passes i h also = absurd (omega (arith, h))
one_passes p from (suc n) a e there passes i h also =
    elim (next_of p from n) [
      | inl one ↦
          let rest : passing p from n ≡ 0 = omega (arith, one.1, e) in
          elim (split_last i n h) [
            | inl below ↦ absurd (true≢false (sym also ∙ none_passes p from n rest i below))
            | inr last ↦ elim (split_last a n there) [
              | inl below ↦ absurd (true≢false (sym passes ∙ none_passes p from n rest a below))
              | inr same ↦ last ∙ sym same
            ]
          ]
      | inr off ↦
          elim (split_last i n h) [
            | inl below ↦ elim (split_last a n there) [
              | inl under ↦ one_passes p from n a (omega (arith, off.1, e)) under passes i below also
              | inr same ↦ absurd (true≢false (sym passes ∙ ap (λ (k : ℕ). p (from + k)) same ∙ off.0))
            ]
            | inr last ↦ absurd (true≢false (sym also ∙ ap (λ (k : ℕ). p (from + k)) last ∙ off.0))
          ]
    ]

pub passes_one : (p : ℕ → Bool) (from n a : ℕ) → a < n → p (from + a) ≡ true → ((i : ℕ) → i < n → p (from + i) ≡ true → i ≡ a) → passing p from n ≡ 1
passes_one p from zero a there passes only = absurd (omega (arith, there))
passes_one p from (suc n) a there passes only =
    elim (split_last a n there) [
      | inl below ↦ elim (next_of p from n) [
        | inl one ↦ absurd (omega (arith, below, only n (omega arith) one.0))
        | inr off ↦ off.1 ∙ passes_one p from n a below passes (λ i under. only i (omega (arith, under)))
      ]
      | inr last ↦ elim (next_of p from n) [
        | inl one ↦ omega (arith, one.1, passes_none p from n (λ i under. fails i (λ here. omega (arith, under, last, only i (omega (arith, under)) here))))
        | inr off ↦ absurd (true≢false (sym passes ∙ ap (λ (k : ℕ). p (from + k)) last ∙ off.0))
      ]
    ]
  where
    fails : (i : ℕ) → (p (from + i) ≡ true → ⊥) → p (from + i) ≡ false
    fails i not = false_from_ne_true (p (from + i)) not

-- one part behind the other
pub passing-add : (p : ℕ → Bool) (from m n : ℕ) → passing p from (m + n) ≡ passing p from m + passing p (from + m) n
passing-add p from m zero = ap (passing p from) (add-zero m) ∙ omega (arith, passing-none p (from + m))
passing-add p from m (suc n) =
    let there : from + (m + n) ≡ from + m + n = omega arith in
    let sum : m + suc n ≡ suc (m + n) = omega arith in
    ap (passing p from) sum ∙ passing-more p from (m + n)
    ∙ ap (λ (i : ℕ). passing p from (m + n) + cond (p i) 1 0) there
    ∙ omega (arith, passing-add p from m n, passing-more p (from + m) n)
