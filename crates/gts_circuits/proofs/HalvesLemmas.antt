-- What was done at each place of two parts was done at each place of the whole.
use Rattle.gts_circuits.proofs.Cited.{◌≡◌, ℕ, ◌-◌, ◌<◌, ◌++◌, List, length, sym, ap, ◌∙◌, subst, arith, cases_lt, get_or_append_left, get_or-append_right}
use mathlib.Core.Logic.{⊎_elim}
use mathlib.Core.Path.{refl}
use lib.ListN.{get_or}
use Rattle.std.proofs.lemmas.List.{length-append}

module _ {A : Type 0} (Q : A → A → Type 0) where
  moved : (x x' y y' : A) → x' ≡ x → y' ≡ y → Q x y → Q x' y'
  moved x x' y y' old new q = subst (λ (z : A). Q z y') (sym old) (subst (λ (z : A). Q x z) (sym new) q)

  pub both_parts : (all front back front' back' : List A) → all ≡ front ++ back → length front' ≡ length front
      → ((i : ℕ) (d : A) → i < length front → Q (get_or front i d) (get_or front' i d))
      → ((i : ℕ) (d : A) → i < length back → Q (get_or back i d) (get_or back' i d))
      → (i : ℕ) (d : A) → i < length all → Q (get_or all i d) (get_or (front' ++ back') i d)
  both_parts all front back front' back' old kept low high i d inside =
      let n = length front in
      let old_at : get_or all i d ≡ get_or (front ++ back) i d = ap (λ (l : List A). get_or l i d) old in
      let many : length all ≡ length (front ++ back) = ap (λ (l : List A). length l) old in
      ⊎_elim
      (λ below. moved _ _ _ _ (old_at ∙ get_or_append_left front back d i below) (get_or_append_left front' back' d i (omega (arith, kept)))
      (low i d below))
      (λ above. moved _ _ _ _ (old_at ∙ get_or-append_right front back n i d refl above) (get_or-append_right front' back' n i d kept above)
      (high (i - n) d (omega (arith, many, length-append front back))))
      (cases_lt i n)
