-- The findings of rows, one row more.
use Rattle.gts_inspect.proofs.Cited.{◌≡◌, ◌+◌, ◌++◌, ◌<◌, ℕ, get_or, length-map, length-take-le, map-append, take_more, Option, None, Some, List, [], ◌∷◌, length, map, take, refl, sym, ap, append_assoc, append-nil, ◌∙◌, arith, in_order, told}
use Rattle.gts_inspect.specs.declared.finding.Finding.{Finding}

pub told-append : (a b : List (Option Finding)) → told (a ++ b) ≡ told a ++ told b
told-append [] b = refl
told-append (None ∷ a) b = told-append a b
told-append (Some finding ∷ a) b = ap (λ (rest : List Finding). finding ∷ rest) (told-append a b)

-- one finding that may be there more
pub told_more : (a : List (Option Finding)) (look : Option Finding) → told (a ++ look ∷ []) ≡ told a ++ told (look ∷ [])
told_more a look = told-append a (look ∷ [])

-- one row more
pub in_order_more : {A : Type 0} (find : ℕ → A → List (Option Finding)) (n m : ℕ) (rows : List A) (row : A) → n + length rows ≡ m
    → in_order find n (rows ++ row ∷ []) ≡ in_order find n rows ++ told (find m row)
in_order_more find n m [] row e =
    let is : n ≡ m = omega (arith, e) in
    append-nil (told (find n row)) ∙ ap (λ (k : ℕ). told (find k row)) is
in_order_more find n m (first ∷ rows) row e =
    ap (λ (rest : List Finding). told (find n first) ++ rest) (in_order_more find (n + 1) m rows row (omega (arith, e)))
    ∙ sym (append_assoc (told (find n first)) (in_order find (n + 1) rows) (told (find m row)))

-- one row more of those that the code has
pub rows_more : {A B : Type 0} (f : A → B) (find : ℕ → B → List (Option Finding)) (rows : List A) (k : ℕ) (row : A) (looked : List (Option Finding))
    (found : List Finding) (d : A) → k < length rows → row ≡ get_or rows k d → looked ≡ find k (f row)
    → (found ++ in_order find 0 (map f (take k rows))) ++ told looked ≡ found ++ in_order find 0 (map f (take (k + 1) rows))
rows_more {A} {B} f find rows k row looked found d within is made =
    let front = take k rows in
    let more : take (k + 1) rows ≡ front ++ row ∷ [] = take_more rows k d within ∙ ap (λ (r : A). front ++ r ∷ []) (sym is) in
    let all : in_order find 0 (map f (take (k + 1) rows)) ≡ in_order find 0 (map f front) ++ told looked =
    ap (λ (l : List A). in_order find 0 (map f l)) more ∙ ap (in_order find 0) (map-append f front (row ∷ []))
    ∙ in_order_more find 0 k (map f front) (f row) (let few : length (map f front) ≡ k = length-map front f ∙ length-take-le k rows (omega (arith, within)) in omega (arith, few))
    ∙ ap (λ (l : List (Option Finding)). in_order find 0 (map f front) ++ told l) (sym made) in
    append_assoc found (in_order find 0 (map f front)) (told looked) ∙ ap (λ (l : List Finding). found ++ l) (sym all)
