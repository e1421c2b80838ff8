use Rattle.gts_connection.proofs.Cited.{◌≡◌, ℕ, List, ◌++◌, get_or, refl, ap, arith, codes, Bad, CompactHead, DrainHead, EndHead, FeedHead, Head, IsHead, ReopenHead, RestartHead, TakeHead, dec, head_text, readable, two}
use Rattle.gts_connection.proofs.worked.a_capture_may_have_a_bad_byte.Goals as goal

-- no head begins so
no_head : (h : Head) (more : List ℕ) → IsHead two h → head_text h ≡ codes "T 02" ++ more → ⊥
unfolding dec
no_head (TakeHead c) more here e = omega (arith, here, ap (λ (xs : List ℕ). get_or xs 3 0) e)
no_head _ more here e = omega (arith, ap (λ (xs : List ℕ). get_or xs 0 0) e)

pub returns : goal.returns
unfolding readable dec
returns c =
    Bad (codes "T 0") 50 (codes "\nE\n") (omega arith, tt) (TakeHead 0, 48, codes "\n", omega arith, refl)
    (λ h. no_head h.0 h.1 h.2 h.3) refl refl
