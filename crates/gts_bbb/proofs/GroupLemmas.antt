-- A group has a kind exactly where its letters are those of a group.
use Rattle.std.proofs.Common.{◌≡◌, ℕ, ◌+◌, ◌-◌, ◌*◌, Bool, true, false, ◌&&◌, ◌||◌, cond, eqb, List, [], ◌∷◌, Some, None, refl, sym, subst, is_some}
use Rattle.gts_bbb.specs.Cited.{Amendment, Bbb, Correction, Delayed, LastSegment, Segment, is_ascii_uppercase, is_bbb, kind_of}
use Rattle.std.proofs.lemmas.Bool.{eqb-true, and_parts, and_from}

-- one of five tests passes, where the fourth passes only if the fifth does
some_passes : (u x y z l s : Bool) (a b c d e : Bbb) → (l ≡ true → s ≡ true)
    → is_some (cond u (cond x (Some a) (cond y (Some b) (cond z (Some c) (cond l (Some d) (cond s (Some e) None))))) None) ≡ (u && (((x || y) || z) || s))
some_passes false x y z l s a b c d e h = refl
some_passes true true y z l s a b c d e h = refl
some_passes true false true z l s a b c d e h = refl
some_passes true false false true l s a b c d e h = refl
some_passes true false false false true s a b c d e h = sym (h refl)
some_passes true false false false false true a b c d e h = refl
some_passes true false false false false false a b c d e h = refl

-- the Z of a last segment is a capital
last_is_capital : (a b : ℕ) → (eqb a 80 && eqb b 90) ≡ true → (eqb a 80 && is_ascii_uppercase b) ≡ true
last_is_capital a b e =
    let both = and_parts (eqb a 80) (eqb b 90) e in
    and_from (eqb a 80) (is_ascii_uppercase b) both.0 (subst (λ (x : ℕ). is_ascii_uppercase x ≡ true) (sym (eqb-true b 90 both.1)) refl)

pub is_some-kind_of : (three : List ℕ) → is_some (kind_of three) ≡ is_bbb three
is_some-kind_of (a ∷ b ∷ c ∷ []) =
    some_passes (is_ascii_uppercase c) (eqb a 82 && eqb b 82) (eqb a 67 && eqb b 67) (eqb a 65 && eqb b 65) (eqb a 80 && eqb b 90) (eqb a 80 && is_ascii_uppercase b)
    (Delayed c) (Correction c) (Amendment c) (LastSegment c) (Segment (26 * (b - 65) + (c - 65))) (last_is_capital a b)
is_some-kind_of _ = refl
