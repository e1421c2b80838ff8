-- How pieces are put one behind the other.
use Rattle.gts_checkpoint.proofs.Cited.{common_steps, ◌≡◌, ℕ, zero, suc, ◌+◌, ◌<◌, ◌≤◌, get_or, List, [], ◌∷◌, ◌++◌, length, take, drop, refl, ap, subst, ◌∙◌, arith, Result, Ok, Err, OnOk, flat_more, Call, HasPut, SealingWriter, Stands, overwritten, put_by, append-nil, length-flat_map-take}
use Rattle.gts_checkpoint.specs.Cited.{flat_map}

-- two pieces are one
pub put_more : (observed : Type 0) (xs ys : List ℕ) (a b c : List Call) (p q r : SealingWriter) → HasPut observed xs a p b q → HasPut observed ys b q c r → HasPut observed (xs ++ ys) a p c r
put_more observed xs ys a b c p q r first second = grind (arith, common_steps)

-- the same where the seal of the first was taken between them
pub put_apart : (observed : Type 0) (xs ys : List ℕ) (a b c : List Call) (p q next r : SealingWriter) → observed → Stands a p → HasPut observed xs a p b q → next ≡ record q { sealer = next.sealer } → HasPut observed ys b next c r
    → put_by c r ≡ (put_by a p ++ xs) ++ ys
put_apart observed xs ys a b c p q next r tell s first taken second = grind (arith, common_steps)

-- a piece by another name
pub put_same : (observed : Type 0) (xs ys : List ℕ) (a b : List Call) (p q : SealingWriter) → xs ≡ ys → HasPut observed xs a p b q → HasPut observed ys a p b q
put_same observed xs ys a b p q same h = subst (λ (l : List ℕ). HasPut observed l a p b q) same h

drop_past : (xs : List ℕ) (n : ℕ) → length xs ≤ n → drop n xs ≡ []
drop_past [] zero few = refl
drop_past [] (suc n) few = refl
drop_past (x ∷ xs) zero few = absurd (omega arith)
drop_past (x ∷ xs) (suc n) few = drop_past xs n (omega (arith, few))

take_end : (xs : List ℕ) → take (length xs) xs ≡ xs
take_end [] = refl
take_end (x ∷ xs) = ap (λ (l : List ℕ). x ∷ l) (take_end xs)

-- bytes at the end of a file
pub written_end : (xs bytes : List ℕ) → overwritten xs (length xs) bytes ≡ xs ++ bytes
written_end xs bytes = ap (λ (l : List ℕ). l ++ (bytes ++ drop (length xs + length bytes) xs)) (take_end xs) ∙ ap (λ (l : List ℕ). xs ++ (bytes ++ l)) (drop_past xs (length xs + length bytes) (omega arith)) ∙ ap (λ (l : List ℕ). xs ++ l) (append-nil bytes)

-- ---- piece by piece over a list

pub flat_room : {A : Type 0} (f : A → List ℕ) (xs : List A) (i : ℕ) (x : A) → i < length xs → x ≡ get_or xs i x
    → length (flat_map f (take i xs)) + length (f x) ≤ length (flat_map f xs)
flat_room {A} f xs i x low is = grind (arith, common_steps, length-flat_map-take)

pub put_next : {A : Type 0} (f : A → List ℕ) (observed : Type 0) (xs : List A) (i : ℕ) (x : A) (a b c : List Call) (p q r : SealingWriter) → i < length xs → x ≡ get_or xs i x
    → HasPut observed (flat_map f (take i xs)) a p b q → HasPut observed (f x) b q c r → HasPut observed (flat_map f (take (i + 1) xs)) a p c r
put_next f observed xs i x a b c p q r low is first second = grind (arith, common_steps, flat_more, put_more, put_same)

-- what holds where a call was done
pub where_done : {T E : Type 0} {P Q : Type 0} (result : Result T E) → (P → Q) → OnOk result P → OnOk result Q
where_done (Ok x) f p = f p
where_done (Err e) f p = tt
