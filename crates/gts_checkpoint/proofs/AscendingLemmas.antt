-- Numbers that ascend, and what is found among them.
use Rattle.gts_checkpoint.proofs.Cited.{◌≡◌, ◌≢◌, ℕ, zero, suc, ◌+◌, ◌<◌, ◌≤◌, true, false, ◌⊎◌, inl, inr, nat_lt, List, [], ◌∷◌, length, get_or, refl, arith, ascends, and_parts, and_from, false_from_ne_true, ltb-true, lt-ltb, cases_lt, common_steps}
use Rattle.gts_checkpoint.specs.Cited.{positions}
use Rattle.gts_event.specs.declared.values.Bulletin.{Bulletin}

pub rises : (xs : List ℕ) (i j : ℕ) → ascends xs ≡ true → i < j → j < length xs → get_or xs i 0 < get_or xs j 0
rises [] i j h l m = absurd (omega arith)
rises (x ∷ []) i j h l m = absurd (omega arith)
rises (x ∷ y ∷ zs) i zero h l m = absurd (omega arith)
rises (x ∷ y ∷ zs) zero (suc zero) h l m = ltb-true x y (and_parts (nat_lt x y) (ascends (y ∷ zs)) h).0
rises (x ∷ y ∷ zs) zero (suc (suc j)) h l m =
    let both = and_parts (nat_lt x y) (ascends (y ∷ zs)) h in
    let a : x < y = ltb-true x y both.0 in
    let b : y < get_or zs j 0 = rises (y ∷ zs) zero (suc j) both.1 (omega arith) (omega arith) in omega arith
rises (x ∷ y ∷ zs) (suc i) (suc j) h l m = rises (y ∷ zs) i j (and_parts (nat_lt x y) (ascends (y ∷ zs)) h).1 (omega arith) (omega arith)

-- each is below the next
pub ascends-from : (xs : List ℕ) → ((i : ℕ) → suc i < length xs → get_or xs i 0 < get_or xs (suc i) 0) → ascends xs ≡ true
ascends-from [] h = refl
ascends-from (x ∷ []) h = refl
ascends-from (x ∷ y ∷ zs) h =
    and_from (nat_lt x y) (ascends (y ∷ zs)) (lt-ltb x y (h zero (omega arith))) (ascends-from (y ∷ zs) (λ i l. h (suc i) (omega arith)))

pub ascends-not : (xs : List ℕ) (i j : ℕ) → j ≡ i + 1 → j < length xs → get_or xs j 0 ≤ get_or xs i 0 → ascends xs ≡ false
ascends-not xs i j e l m = false_from_ne_true (ascends xs) (λ h. let up : get_or xs i 0 < get_or xs j 0 = rises xs i j h (omega arith) l in omega arith)

-- the numbers below a place, each below the next
abbrev pub RiseTo : List ℕ → ℕ → Type 0
RiseTo xs n = (i : ℕ) → suc i < n → get_or xs i 0 < get_or xs (suc i) 0

pub rise-more : (xs : List ℕ) (n k : ℕ) → RiseTo xs n → n ≡ k + 1 → get_or xs k 0 < get_or xs n 0 → RiseTo xs (n + 1)
rise-more xs n k h e l i m = go (cases_lt (suc i) n)
  where
    go : (suc i < n) ⊎ (n ≤ suc i) → get_or xs i 0 < get_or xs (suc i) 0
    go (inl t) = h i t
    go (inr t) =
        let at : i ≡ k = omega arith in
        let next : suc i ≡ n = omega arith in rw (at, ← e') l
      where
        e' : n ≡ suc k
        e' = omega arith

-- ---- positions of bulletins

pub positions-length : (bs : List Bulletin) → length (positions bs) ≡ length bs
positions-length [] = refl
positions-length (b ∷ bs) = let e = positions-length bs in omega arith

pub position-at : (bs : List Bulletin) (i : ℕ) (b : Bulletin) → i < length bs → get_or (positions bs) i 0 ≡ (get_or bs i b).position
position-at [] i b l = absurd (omega arith)
position-at (x ∷ bs) zero b l = refl
position-at (x ∷ bs) (suc i) b l = position-at bs i b (omega arith)

-- ---- the halves of a search

pub below-half : (xs : List ℕ) (n m : ℕ) → ascends xs ≡ true → m < length xs → get_or xs m 0 < n → (k : ℕ) → k < m + 1 → get_or xs k 0 < n
below-half xs n m h l less k t = go (cases_lt k m)
  where
    go : (k < m) ⊎ (m ≤ k) → get_or xs k 0 < n
    go (inl t') = let up : get_or xs k 0 < get_or xs m 0 = rises xs k m h t' l in omega arith
    go (inr t') = let same : k ≡ m = omega arith in rw same less

pub above-half : (xs : List ℕ) (n m : ℕ) → ascends xs ≡ true → n < get_or xs m 0 → (k : ℕ) → m ≤ k → k < length xs → n < get_or xs k 0
above-half xs n m h more k t l = go (cases_lt m k)
  where
    go : (m < k) ⊎ (k ≤ m) → n < get_or xs k 0
    go (inl t') = let up : get_or xs m 0 < get_or xs k 0 = rises xs m k h t' l in omega arith
    go (inr t') = let same : k ≡ m = omega arith in rw same more

pub found_none : (xs : List ℕ) (n m size : ℕ) → ((k : ℕ) → k < m → get_or xs k 0 < n) → ((k : ℕ) → m ≤ k → k < size → n < get_or xs k 0)
    → (k : ℕ) → k < size → get_or xs k 0 ≢ n
found_none xs n m size below above k l = grind (arith, common_steps, cases_lt)
