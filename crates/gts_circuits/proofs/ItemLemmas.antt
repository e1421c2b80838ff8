-- Items of lists, by their places.
use Rattle.gts_circuits.proofs.Cited.{◌≡◌, ◌≢◌, ℕ, zero, suc, ◌<◌, List, [], ◌∷◌, ◌++◌, length, length-append, ◌+◌, map, take, get_or, slice_set, Some, refl, sym, ap, ◌∙◌, arith, add-one, slice_get, map-append, some, get_elem?, Circuit, CircuitRoom, Directory, PlaceSeen, place_asked, place_of, common_steps}
use Rattle.gts_circuits.proofs.PlacesLemmas.{in_middle, map_at}

module _ {A : Type 0} where
  pub item_at : (xs : List A) (k : ℕ) (d : A) → k < length xs → get_elem? xs k ≡ some (get_or xs k d)
  item_at [] k d less = absurd (omega (arith, less))
  item_at (x ∷ xs) zero d less = refl
  item_at (x ∷ xs) (suc k) d less = item_at xs k d (omega (arith, less))

  pub set_at : (xs : List A) (k : ℕ) (y : A) → k < length xs → get_elem? (slice_set xs k y) k ≡ some y
  set_at [] k y less = absurd (omega (arith, less))
  set_at (x ∷ xs) zero y less = refl
  set_at (x ∷ xs) (suc k) y less = set_at xs k y (omega (arith, less))

  pub not_set : (xs : List A) (c : ℕ) (y : A) (k : ℕ) (z : A) → k ≢ c → get_elem? (slice_set xs c y) k ≡ some z → get_elem? xs k ≡ some z
  not_set [] c y k z differ at = at
  not_set (x ∷ xs) zero y zero z differ at = absurd (differ refl)
  not_set (x ∷ xs) zero y (suc k) z differ at = at
  not_set (x ∷ xs) (suc c) y zero z differ at = at
  not_set (x ∷ xs) (suc c) y (suc k) z differ at = not_set xs c y k z (λ e. differ (ap suc e)) at

  pub count_set : (xs : List A) (c : ℕ) (y : A) → length (slice_set xs c y) ≡ length xs
  count_set [] c y = refl
  count_set (x ∷ xs) zero y = refl
  count_set (x ∷ xs) (suc c) y = ap suc (count_set xs c y)

  pub less_than_all : (xs : List A) (x : A) (rest all : List A) → xs ++ x ∷ rest ≡ all → length xs < length all
  less_than_all xs x rest all is = let e : length xs + length (x ∷ rest) ≡ length all = sym (length-append xs (x ∷ rest)) ∙ ap (λ (l : List A). length l) is in omega (arith, e)

pub asked_at : (before : List CircuitRoom) (room : CircuitRoom) (rest all : List CircuitRoom) (c : ℕ) → before ++ room ∷ rest ≡ all → c ≡ length before
    → get_elem? (map place_asked all) c ≡ some (place_asked room)
asked_at before room rest all c is place = ap (get_elem? (map place_asked all)) place ∙ map_at place_asked all (length before) room (in_middle before room rest all is)

-- one item more of a list that was mapped
pub take_next : {A B : Type 0} (f : A → B) (xs : List A) (k : ℕ) (x : A) → slice_get xs k ≡ Some x → take (suc k) (map f xs) ≡ take k (map f xs) ++ f x ∷ []
take_next f [] k x at = absurd (cc at)
take_next f (y ∷ xs) zero x at = grind (arith, common_steps)
take_next f (y ∷ xs) (suc k) x at = ap (λ (l : List _). f y ∷ l) (take_next f xs k x at)

-- the places of one room more
pub rooms_more : (d : Directory) (rooms new : List CircuitRoom) (room : CircuitRoom) (rows : List Circuit) (k : ℕ) (row : Circuit) → new ≡ rooms ++ room ∷ []
    → map place_asked rooms ≡ take k (map (place_of d) rows) → slice_get rows k ≡ Some row → place_asked room ≡ place_of d row
    → map place_asked new ≡ take (k + 1) (map (place_of d) rows)
rooms_more d rooms new room rows k row is before at same =
    ap (map place_asked) is ∙ map-append place_asked rooms (room ∷ []) ∙ ap (λ (l : List PlaceSeen). l ++ place_asked room ∷ []) before
    ∙ ap (λ (p : PlaceSeen). take k (map (place_of d) rows) ++ p ∷ []) same ∙ sym (take_next (place_of d) rows k row at)
    ∙ ap (λ (n : ℕ). take n (map (place_of d) rows)) (sym (add-one k))
