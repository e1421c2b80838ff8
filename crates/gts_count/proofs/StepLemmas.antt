-- The bulletins of the window, when one more joins them.
use Rattle.gts_count.proofs.Cited.{◌≡◌, ℕ, ◌+◌, ◌-◌, ◌<◌, ◌≤◌, Bool, true, false, ◌||◌, ◌==◌, nat_lt, nat_le, cond, List, [], ◌∷◌, ◌++◌, length, map, filter, refl, sym, ap, subst, ◌∙◌, arith, Bulletin, Climbs, Directory, IsHeld, Recent, State, all_joined, is_bulletin, is_recent, joined, list_all, positions_of, recent_in, recent_of, ne_eqb, ltb-true, le-leb, leb-true, lt-leb, cases_lt, and_parts, append-nil, append_assoc, length-append, filter-append, bulletin-parts, common_steps}

-- ---- bulletins in the order of their positions, among the last ones of so many

abbrev AllAbove : ℕ → List Recent → Type 0
AllAbove m [] = Unit {0}
AllAbove m (r ∷ rs) = (m < r.position) × AllAbove m rs

abbrev pub InWindow : ℕ → ℕ → List Recent → Type 0
InWindow w n [] = Unit {0}
InWindow w n (r ∷ rs) = (r.position < n) × (n ≤ r.position + w) × AllAbove r.position rs × InWindow w n rs

above_in : (d : Directory) (n m : ℕ) (bs : List Bulletin) → list_all (nat_lt m) (positions_of bs) ≡ true → AllAbove m (recent_in d n bs)
above_in d n m [] e = tt
above_in d n m (b ∷ bs) e =
    let both = and_parts (nat_lt m b.position) (list_all (nat_lt m) (positions_of bs)) e in
    elim (is_recent d n b.position) as (λ t. AllAbove m (map recent_of (cond t (b ∷ filter (λ (x : Bulletin). is_recent d n x.position) bs) (filter (λ (x : Bulletin). is_recent d n x.position) bs)))) [
      | true ↦ (ltb-true m b.position both.0, above_in d n m bs both.1)
      | false ↦ above_in d n m bs both.1
    ]

-- those that are counted are so
pub counted_window : (d : Directory) (n : ℕ) (bs : List Bulletin) → Climbs (positions_of bs) → list_all (is_bulletin d n) bs ≡ true → InWindow d.window n (recent_in d n bs)
counted_window d n [] up all = tt
counted_window d n (b ∷ bs) up all =
    let both : (is_bulletin d n b ≡ true) × (list_all (is_bulletin d n) bs ≡ true) = and_parts (is_bulletin d n b) (list_all (is_bulletin d n) bs) all in
    go both.0 (counted_window d n bs up.1 both.1) (is_recent d n b.position) refl
  where
    go : is_bulletin d n b ≡ true → InWindow d.window n (recent_in d n bs) → (t : Bool) → is_recent d n b.position ≡ t → InWindow d.window n (map recent_of (cond t (b ∷ filter (λ (x : Bulletin). is_recent d n x.position) bs) (filter (λ (x : Bulletin). is_recent d n x.position) bs)))
    go here rest true near = (ltb-true b.position n (bulletin-parts d n b here).below, leb-true n (b.position + d.window) near, above_in d n b.position bs up.0, rest)
    go here rest false far = rest

-- from the first on there are no more than positions
span : (w n : ℕ) (r : Recent) (rs : List Recent) → InWindow w n (r ∷ rs) → length (r ∷ rs) + r.position ≤ n
span w n r [] is = omega (arith, is.0)
span w n r (x ∷ xs) is = let rest : length (x ∷ xs) + x.position ≤ n = span w n x xs is.3 in omega (arith, rest, is.2.0)

window_front : (w n : ℕ) (xs ys : List Recent) → InWindow w n (xs ++ ys) → InWindow w n xs
window_front w n [] ys is = tt
window_front w n (x ∷ xs) ys is = (is.0, is.1, above_front xs is.2, window_front w n xs ys is.3)
  where
    above_front : (zs : List Recent) → AllAbove x.position (zs ++ ys) → AllAbove x.position zs
    above_front [] all = tt
    above_front (z ∷ zs) all = (all.0, above_front zs all.1)

-- ---- one joins those of a state

abbrev last_ones : ℕ → ℕ → List Recent → List Recent
last_ones w n rs = filter (λ (r : Recent). nat_le n (r.position + w)) rs

stay : (w n m : ℕ) (rs : List Recent) → AllAbove m rs → n ≤ m + w → last_ones w (n + 1) rs ≡ rs
stay w n m [] above near = refl
stay w n m (r ∷ rs) above near = grind (arith, common_steps, le-leb, stay w n m rs above.1 near)

pub joined_last : (w n : ℕ) (rs : List Recent) (b : Recent) → 1 ≤ w → InWindow w n rs → b.position ≡ n → joined w rs b ≡ last_ones w (n + 1) (rs ++ b ∷ [])
joined_last w n [] b one is at = sym (ap (λ t. cond t (b ∷ []) []) (le-leb (n + 1) (b.position + w) (omega (arith, one, at))))
joined_last w n (r ∷ rs) b one is at = grind (arith, common_steps, cases_lt, le-leb, lt-leb, stay, span, ne_eqb, filter-append)

-- ---- those of a start join, one after another

pub all_joined-append : (w : ℕ) (rs xs ys : List Recent) → all_joined w (all_joined w rs xs) ys ≡ all_joined w rs (xs ++ ys)
all_joined-append w rs [] ys = refl
all_joined-append w rs (x ∷ xs) ys = all_joined-append w (joined w rs x) xs ys

joins_start : (w n : ℕ) (rs : List Recent) (b : Recent) → InWindow w n (rs ++ b ∷ []) → joined w rs b ≡ rs ++ b ∷ []
joins_start w n [] b is = refl
joins_start w n (r ∷ rs) b is =
    let size : length (r ∷ rs ++ b ∷ []) + r.position ≤ n = span w n r (rs ++ b ∷ []) is in
    let more : length (r ∷ rs ++ b ∷ []) ≡ length (r ∷ rs) + 1 = length-append (r ∷ rs) (b ∷ []) in
    let low : nat_le w (b.position - r.position) ≡ false = lt-leb w (b.position - r.position) (omega (arith, is.1, last_low (r ∷ rs) is)) in
    let room : (length (r ∷ rs) == w) ≡ false = ne_eqb (length (r ∷ rs)) w (λ e. omega (arith, e, size, more, is.1)) in
    ap (λ t. cond t rs (r ∷ rs) ++ b ∷ []) (ap (λ t. t || (length (r ∷ rs) == w)) low ∙ room)
  where
    last_low : (xs : List Recent) → InWindow w n (xs ++ b ∷ []) → b.position < n
    last_low [] at = at.0
    last_low (x ∷ xs) at = last_low xs at.3

pub starts_window : (w n : ℕ) (front rs : List Recent) → InWindow w n (front ++ rs) → all_joined w front rs ≡ front ++ rs
starts_window w n front [] is = sym (append-nil front)
starts_window w n front (r ∷ rs) is =
    let more : (front ++ r ∷ []) ++ rs ≡ front ++ r ∷ rs = append_assoc front (r ∷ []) rs in
    let whole : InWindow w n ((front ++ r ∷ []) ++ rs) = subst (λ (xs : List Recent). InWindow w n xs) (sym more) is in
    ap (λ (xs : List Recent). all_joined w xs rs) (joins_start w n front r (window_front w n (front ++ r ∷ []) rs whole))
    ∙ starts_window w n (front ++ r ∷ []) rs whole ∙ more

-- the bulletins that are counted of a held state
pub held_window : (d : Directory) (t : State) → IsHeld d t → InWindow d.window t.count (recent_in d t.count t.accepted)
held_window d t held = counted_window d t.count t.accepted held.order held.bodies
