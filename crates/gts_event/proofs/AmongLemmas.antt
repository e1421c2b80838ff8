-- What is among numbers.
use Rattle.gts_event.proofs.Cited.{◌≡◌, ◌≢◌, ℕ, zero, suc, ◌<◌, ◌≤◌, true, false, List, [], ◌∷◌, length, get_or, Ok, Err, Result, is_ok, refl, sym, arith, MatchResult, eq-eqb, ne_eqb, cases_lt, common_steps}
use Rattle.gts_event.specs.State.{has}

pub has_at : (xs : List ℕ) (i n : ℕ) → i < length xs → get_or xs i 0 ≡ n → has xs n ≡ true
has_at [] i n low is = absurd (omega arith)
has_at (x ∷ xs) zero n low is = rw (eq-eqb x n is) refl
has_at (x ∷ xs) (suc i) n low is = grind (arith, common_steps, has_at xs i n (omega arith) is)

pub has_not : (xs : List ℕ) (n : ℕ) → ((k : ℕ) → k < length xs → get_or xs k 0 ≢ n) → has xs n ≡ false
has_not [] n other = refl
has_not (x ∷ xs) n other = rw (ne_eqb x n (other zero (omega arith))) (has_not xs n (λ k low. other (suc k) (omega arith)))

-- what a bisection of numbers in ascending order finds
pub has_searched : (xs : List ℕ) (n : ℕ) (r : Result ℕ ℕ)
    → MatchResult r (λ i. (i < length xs) × (get_or xs i 0 ≡ n)) (λ i. (i ≤ length xs) × ((k : ℕ) → k < i → get_or xs k 0 < n) × ((k : ℕ) → i ≤ k → k < length xs → n < get_or xs k 0))
    → is_ok r ≡ has xs n
has_searched xs n (Ok i) found = sym (has_at xs i n found.0 found.1)
has_searched xs n (Err i) found = grind (arith, common_steps, has_not, cases_lt)
