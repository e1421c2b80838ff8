-- The numbers of each key, where a bulletin or a draw joins or leaves.
use Rattle.gts_count.proofs.Cited.{◌≡◌, ℕ, ◌+◌, ◌<◌, Bool, true, false, cond, nat_eq, List, [], ◌∷◌, ◌++◌, length, set, get_or, sum_by, refl, sym, ap, ◌∙◌, arith, ChangesRow, IsCount, Recent, Row, Rows, Tally, counted, draws_among, is_of, once, pointwise, row_at, with_draw, without_bulletin, without_draw, sum_by-cons, sum_by-append, sum_by-set, same_from_pointwise}
use Rattle.gts_count.specs.Cited.{with_bulletin}

abbrev pub row : ℕ → ℕ → ℕ → Row
row a b c = record { bulletins = a; bytes = b; draws = c }

row_is : (a a' b b' c c' : ℕ) → a ≡ a' → b ≡ b' → c ≡ c' → row a b c ≡ row a' b' c'
row_is a a' b b' c c' p q r = ap (λ x. row x b c) p ∙ ap (λ x. row a' x c) q ∙ ap (λ x. row a' b' x) r

abbrev pub tallied : List Recent → List (List (List ℕ)) → Tally
tallied recent drawn = record { recent = recent; drawn = drawn }

-- what a bulletin adds to the numbers of a key
abbrev pub one : List ℕ → Recent → ℕ
one key r = once (is_of key r)

abbrev pub size : List ℕ → Recent → ℕ
size key r = cond (is_of key r) r.bytes 0

-- one more at the end
pub sum_by-more : {X : Type 0} (f : X → ℕ) (xs : List X) (x : X) → sum_by f (xs ++ x ∷ []) ≡ sum_by f xs + f x
sum_by-more f xs x = omega (arith, sum_by-append f xs (x ∷ []), sum_by-cons f x [])

-- a bulletin that stands first leaves
pub leaves : (y : Recent) (rest : List Recent) (drawn : List (List (List ℕ))) (m n : Rows) → IsCount (tallied (y ∷ rest) drawn) m → ChangesRow m n y.key (without_bulletin y (row_at m y.key))
    → IsCount (tallied rest drawn) n
leaves y rest drawn m n before changes key = changes.numbers key ∙ go (is_of key y) refl
  where
    ones : sum_by (one key) (y ∷ rest) ≡ one key y + sum_by (one key) rest
    ones = sum_by-cons (one key) y rest

    sizes : sum_by (size key) (y ∷ rest) ≡ size key y + sum_by (size key) rest
    sizes = sum_by-cons (size key) y rest

    go : (b : Bool) → is_of key y ≡ b → cond b (without_bulletin y (row_at m y.key)) (row_at m key) ≡ counted (tallied rest drawn) key
    go true same =
        let is : y.key ≡ key = sym (same_from_pointwise key y.key same) in
        ap (λ (r : Row). without_bulletin y r) (ap (λ (k : List ℕ). row_at m k) is ∙ before key)
        ∙ row_is _ (sum_by (one key) rest) _ (sum_by (size key) rest) _ (sum_by (draws_among key) drawn)
        (omega (arith, ones, ap once same)) (omega (arith, sizes, ap (λ b. cond b y.bytes 0) same)) refl
    go false same =
        before key
        ∙ row_is _ (sum_by (one key) rest) _ (sum_by (size key) rest) _ (sum_by (draws_among key) drawn)
        (omega (arith, ones, ap once same)) (omega (arith, sizes, ap (λ b. cond b y.bytes 0) same)) refl

-- a bulletin joins at the end
pub joins : (x : Recent) (recent : List Recent) (drawn : List (List (List ℕ))) (m n : Rows) → IsCount (tallied recent drawn) m → ChangesRow m n x.key (with_bulletin x (row_at m x.key))
    → IsCount (tallied (recent ++ x ∷ []) drawn) n
joins x recent drawn m n before changes key = changes.numbers key ∙ go (is_of key x) refl
  where
    ones : sum_by (one key) (recent ++ x ∷ []) ≡ sum_by (one key) recent + one key x
    ones = sum_by-more (one key) recent x

    sizes : sum_by (size key) (recent ++ x ∷ []) ≡ sum_by (size key) recent + size key x
    sizes = sum_by-more (size key) recent x

    go : (b : Bool) → is_of key x ≡ b → cond b (with_bulletin x (row_at m x.key)) (row_at m key) ≡ counted (tallied (recent ++ x ∷ []) drawn) key
    go true same =
        let is : x.key ≡ key = sym (same_from_pointwise key x.key same) in
        ap (λ (r : Row). with_bulletin x r) (ap (λ (k : List ℕ). row_at m k) is ∙ before key)
        ∙ row_is _ (sum_by (one key) (recent ++ x ∷ [])) _ (sum_by (size key) (recent ++ x ∷ [])) _ (sum_by (draws_among key) drawn)
        (omega (arith, ones, ap once same)) (omega (arith, sizes, ap (λ b. cond b x.bytes 0) same)) refl
    go false same =
        before key
        ∙ row_is _ (sum_by (one key) (recent ++ x ∷ [])) _ (sum_by (size key) (recent ++ x ∷ [])) _ (sum_by (draws_among key) drawn)
        (omega (arith, ones, ap once same)) (omega (arith, sizes, ap (λ b. cond b x.bytes 0) same)) refl

abbrev pub among : List ℕ → List ℕ → ℕ
among key k = once (pointwise nat_eq key k)

-- the oldest kept draw of a circuit leaves
pub leaves_draw : (k : List ℕ) (rest : List (List ℕ)) (recent : List Recent) (drawn : List (List (List ℕ))) (c : ℕ) (m n : Rows) → c < length drawn → get_or drawn c [] ≡ k ∷ rest → IsCount (tallied recent drawn) m
    → ChangesRow m n k (without_draw (row_at m k)) → IsCount (tallied recent (set drawn c rest)) n
leaves_draw k rest recent drawn c m n inside here before changes key = changes.numbers key ∙ go (pointwise nat_eq key k) refl
  where
    now : sum_by (draws_among key) (set drawn c rest) + draws_among key (get_or drawn c []) ≡ sum_by (draws_among key) drawn + draws_among key rest
    now = sum_by-set (draws_among key) drawn c rest [] inside

    was : draws_among key (get_or drawn c []) ≡ among key k + draws_among key rest
    was = ap (draws_among key) here ∙ sum_by-cons (among key) k rest

    go : (b : Bool) → pointwise nat_eq key k ≡ b → cond b (without_draw (row_at m k)) (row_at m key) ≡ counted (tallied recent (set drawn c rest)) key
    go true same =
        let is : k ≡ key = sym (same_from_pointwise key k same) in
        ap without_draw (ap (λ (k : List ℕ). row_at m k) is ∙ before key)
        ∙ row_is _ (sum_by (one key) recent) _ (sum_by (size key) recent) _ (sum_by (draws_among key) (set drawn c rest)) refl refl (omega (arith, now, was, ap once same))
    go false same =
        before key
        ∙ row_is _ (sum_by (one key) recent) _ (sum_by (size key) recent) _ (sum_by (draws_among key) (set drawn c rest)) refl refl (omega (arith, now, was, ap once same))

-- a draw joins the last ones of a circuit
pub joins_draw : (k : List ℕ) (kept : List (List ℕ)) (recent : List Recent) (drawn : List (List (List ℕ))) (c : ℕ) (m n : Rows) → c < length drawn → get_or drawn c [] ≡ kept → IsCount (tallied recent drawn) m
    → ChangesRow m n k (with_draw (row_at m k)) → IsCount (tallied recent (set drawn c (kept ++ k ∷ []))) n
joins_draw k kept recent drawn c m n inside here before changes key = changes.numbers key ∙ go (pointwise nat_eq key k) refl
  where
    now : sum_by (draws_among key) (set drawn c (kept ++ k ∷ [])) + draws_among key (get_or drawn c []) ≡ sum_by (draws_among key) drawn + draws_among key (kept ++ k ∷ [])
    now = sum_by-set (draws_among key) drawn c (kept ++ k ∷ []) [] inside

    was : draws_among key (get_or drawn c []) ≡ draws_among key kept
    was = ap (draws_among key) here

    grown : draws_among key (kept ++ k ∷ []) ≡ draws_among key kept + among key k
    grown = sum_by-more (among key) kept k

    go : (b : Bool) → pointwise nat_eq key k ≡ b → cond b (with_draw (row_at m k)) (row_at m key) ≡ counted (tallied recent (set drawn c (kept ++ k ∷ []))) key
    go true same =
        let is : k ≡ key = sym (same_from_pointwise key k same) in
        ap with_draw (ap (λ (k : List ℕ). row_at m k) is ∙ before key)
        ∙ row_is _ (sum_by (one key) recent) _ (sum_by (size key) recent) _ (sum_by (draws_among key) (set drawn c (kept ++ k ∷ []))) refl refl (omega (arith, now, was, grown, ap once same))
    go false same =
        before key
        ∙ row_is _ (sum_by (one key) recent) _ (sum_by (size key) recent) _ (sum_by (draws_among key) (set drawn c (kept ++ k ∷ []))) refl refl (omega (arith, now, was, grown, ap once same))
