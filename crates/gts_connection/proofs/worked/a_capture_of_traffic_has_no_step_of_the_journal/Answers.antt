use Rattle.gts_connection.proofs.Cited.{◌≡◌, ℕ, List, [], ◌∷◌, get_or, refl, ap, arith, codes, Bad, CompactHead, DrainHead, EndHead, FeedHead, Head, IsHeadOf, ReopenHead, RestartHead, TakeHead, Traffic, dec, head_text, readable, two}
use Rattle.gts_connection.proofs.worked.a_capture_of_traffic_has_no_step_of_the_journal.Goals as goal

-- no head begins so
no_restart : (h : Head) (more : List ℕ) → IsHeadOf Traffic two h → head_text h ≡ 82 ∷ more → ⊥
unfolding dec
no_restart RestartHead more here e = cc
no_restart CompactHead more here e = cc
no_restart _ more here e = omega (arith, ap (λ (xs : List ℕ). get_or xs 0 0) e)

no_compaction : (h : Head) (more : List ℕ) → IsHeadOf Traffic two h → head_text h ≡ 67 ∷ more → ⊥
unfolding dec
no_compaction RestartHead more here e = cc
no_compaction CompactHead more here e = cc
no_compaction _ more here e = omega (arith, ap (λ (xs : List ℕ). get_or xs 0 0) e)

pub returns : goal.returns
unfolding readable dec
returns c = (
  Bad [] 82 (codes "\nE\n") (omega arith, tt) (EndHead, 69, 10 ∷ [], tt, refl) (λ h. no_restart h.0 h.1 h.2 h.3) refl refl,
  Bad [] 67 (codes "\nE\n") (omega arith, tt) (EndHead, 69, 10 ∷ [], tt, refl) (λ h. no_compaction h.0 h.1 h.2 h.3) refl refl,
)
