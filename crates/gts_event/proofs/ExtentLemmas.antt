-- How much lists of lists hold together.
use Rattle.gts_event.proofs.Cited.{◌≡◌, ℕ, ◌+◌, ◌<◌, List, [], ◌∷◌, ◌++◌, length, get_or, take, map, flat_map, refl, ap, append-nil, take_more, flat_map-append, common_steps, arith}

-- what a function gives for one item more
pub flat_more : {A : Type 0} (f : A → List ℕ) (xs : List A) (i : ℕ) (x : A) → i < length xs → x ≡ get_or xs i x → flat_map f (take (i + 1) xs) ≡ flat_map f (take i xs) ++ f x
flat_more {A} f xs i x low is = grind (arith, common_steps, take_more, flat_map-append, append-nil)

-- a function after another
pub flat_of : {A B : Type 0} (f : B → List ℕ) (g : A → B) (xs : List A) → flat_map (λ x. f (g x)) xs ≡ flat_map f (map g xs)
flat_of f g [] = refl
flat_of f g (x ∷ xs) = ap (λ (l : List ℕ). f (g x) ++ l) (flat_of f g xs)
