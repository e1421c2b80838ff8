-- What a circuit holds, and how it is found there.
use Rattle.gts_core.proofs.Cited.{◌≡◌, ℕ, ◌==◌, List, ◌++◌, sym, ap, ◌∙◌, IsPermutation, list_any-IsPermutation, has_append, CircuitNeed, has, holds}

-- what waits and what is kept, in another order
pub sorted_holds : (n : CircuitNeed) (all sorted : List ℕ) → all ≡ n.waiting ++ n.kept → IsPermutation all sorted → (p : ℕ) → has sorted p ≡ holds n p
sorted_holds n all sorted is same p =
    sym (list_any-IsPermutation (λ m. m == p) all sorted same) ∙ ap (λ (xs : List ℕ). has xs p) is ∙ has_append n.waiting n.kept p
