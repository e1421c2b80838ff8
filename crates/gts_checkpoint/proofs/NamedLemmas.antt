-- Positions that are found, and lists of which each element passes a test.
use Rattle.gts_checkpoint.proofs.Cited.{◌≡◌, ℕ, zero, suc, ◌<◌, ◌≤◌, Bool, true, false, ◌||◌, ◌==◌, List, [], ◌∷◌, length, get_or, take, slice_get, Option, Some, None, refl, sym, ap, ◌∙◌, IfSome, IfNone, is_some, Bulletin, has, is_there, list_all, positions_of, eq-eqb, take_all, list_all_at, common_steps, arith}

-- ---- each element passes

pub all-not : {X : Type 0} (f : X → Bool) (xs : List X) (i : ℕ) (x : X) → i < length xs → x ≡ get_or xs i x → f x ≡ false → list_all f xs ≡ false
all-not f xs i x l is e = list_all_at f xs i x l (sym (ap f is) ∙ e)

pub all-end : {X : Type 0} (f : X → Bool) (xs : List X) (i : ℕ) → length xs ≤ i → list_all f (take i xs) ≡ true → list_all f xs ≡ true
all-end f xs i l h = sym (ap (list_all f) (take_all i xs l)) ∙ h

-- ---- what is found at a place

has-get : (xs : List ℕ) (i n : ℕ) → slice_get xs i ≡ Some n → has xs n ≡ true
has-get [] i n e = absurd (cc)
has-get (x ∷ xs) zero n e = let same : x ≡ n = cc in rw (eq-eqb x n same) refl
has-get (x ∷ xs) (suc i) n e = grind (arith, common_steps, has-get xs i n e)

-- a search of a place finds what is there
pub has-found : (xs : List ℕ) (n : ℕ) (r : Option ℕ) → IfSome r (λ place. slice_get xs place ≡ Some n) → IfNone r (has xs n ≡ false) → has xs n ≡ is_some r
has-found xs n (Some i) h k = has-get xs i n h
has-found xs n None h k = k

-- a position is there exactly where it is among the positions
pub there-has : (bs : List Bulletin) (p : ℕ) → is_there bs p ≡ has (positions_of bs) p
there-has [] p = refl
there-has (b ∷ bs) p = ap (λ (t : Bool). (b.position == p) || t) (there-has bs p)
