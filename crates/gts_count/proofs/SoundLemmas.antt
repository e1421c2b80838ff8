-- The running numbers stay those of what was counted.
use Rattle.gts_count.proofs.Cited.{◌≡◌, ℕ, zero, suc, ◌+◌, ◌-◌, ◌*◌, ◌<◌, ◌≤◌, ◌^◌, Bool, true, false, cond, nat_eq, IsTrue, List, [], ◌∷◌, ◌++◌, length, map, drop, set, get_or, sum_by, slice_get, Option, Some, None, is_some, refl, sym, ap, ◌∙◌, arith, All, Buffer, HasCame, IsCount, IsRing, IsSmall, IsSound, Numbers, Recent, Row, Rows, draws_among, has_row, is_of, keep_last, kept_with, no_ring, once, pointwise, row_at, row_in, with_item, with_newest, without_oldest, get, true≢false, eqb-true, eqb-false, eq-eqb, nat_list_eq_equiv, get_or_from_slice_get, get_or-set_same, get_or-set_other, length-set, length-append, set-set, length-map, get_or-map, map-set, All-map, All-set, sum_by-cons, sum_by-le, get_or-le-sum_by, common_steps}
use Rattle.gts_count.proofs.CountLemmas.{tallied, one, size, among, sum_by-more}

-- a list that has a first element
pub first : {X : Type 0} (xs : List X) (y : X) → slice_get xs 0 ≡ Some y → xs ≡ y ∷ drop 1 xs
first {X} [] y is = absurd (true≢false (sym (ap is_some is)))
first {X} (x ∷ xs) y is = ap (λ (z : X). z ∷ xs) (get_or_from_slice_get (x ∷ xs) 0 y y is)

-- a key with numbers has a row
has_of : (o : Option Row) → 1 ≤ (row_in o).bulletins → is_some o ≡ true
has_of None few = absurd (omega arith)
has_of (Some row) few = refl

pub has_from : (rows : Rows) (key : List ℕ) → 1 ≤ (row_at rows key).bulletins → IsTrue (has_row rows key)
has_from rows key few = has_of (get (pointwise nat_eq) rows key) few

-- a bulletin has its own key
own : (y : Recent) → is_of y.key y ≡ true
own y = nat_list_eq_equiv.refl y.key

-- the numbers of the key of the first bulletin
pub first_counted : (y : Recent) (rest : List Recent) (drawn : List (List (List ℕ))) (m : Rows) → IsCount (tallied (y ∷ rest) drawn) m → 1 ≤ (row_at m y.key).bulletins
first_counted y rest drawn m is = omega (arith, ap (λ (r : Row). r.bulletins) (is y.key), sum_by-cons (one y.key) y rest, ap once (own y))

pub first_sized : (y : Recent) (rest : List Recent) (drawn : List (List (List ℕ))) (m : Rows) → IsCount (tallied (y ∷ rest) drawn) m → y.bytes ≤ (row_at m y.key).bytes
first_sized y rest drawn m is = omega (arith, ap (λ (r : Row). r.bytes) (is y.key), sum_by-cons (size y.key) y rest, ap (λ b. cond b y.bytes 0) (own y))

-- a bulletin that came in on a circuit
abbrev pub on : ℕ → Recent → ℕ
on c r = once (nat_eq r.from c)

pub first_came : (y : Recent) (rest : List Recent) (drawn : List (List (List ℕ))) (numbers : List ℕ) → HasCame (tallied (y ∷ rest) drawn) numbers → y.from < length numbers → 1 ≤ get_or numbers y.from 0
first_came y rest drawn numbers has inside = omega (arith, has y.from inside, sum_by-cons (on y.from) y rest, ap once (eq-eqb y.from y.from refl))

-- one bulletin leaves, and its circuit has one less
pub leaves_came : (y : Recent) (rest : List Recent) (drawn : List (List (List ℕ))) (numbers : List ℕ) (v : ℕ) → HasCame (tallied (y ∷ rest) drawn) numbers → y.from < length numbers → v ≡ get_or numbers y.from 0 - 1
    → HasCame (tallied rest drawn) (set numbers y.from v)
leaves_came y rest drawn numbers v has inside is c within =
    grind (arith, common_steps, length-set, sum_by-cons, tallied, eqb-true, get_or-set_same, get_or-set_other, eqb-false)

-- one bulletin joins, and its circuit has one more
pub joins_came : (x : Recent) (recent : List Recent) (drawn : List (List (List ℕ))) (numbers : List ℕ) (v : ℕ) → HasCame (tallied recent drawn) numbers → x.from < length numbers → v ≡ get_or numbers x.from 0 + 1
    → HasCame (tallied (recent ++ x ∷ []) drawn) (set numbers x.from v)
joins_came x recent drawn numbers v has inside is c within =
    grind (arith, common_steps, length-set, sum_by-more, tallied, eqb-true, get_or-set_same, get_or-set_other, eqb-false)

-- no more than one each
once-few : (b : Bool) → once b ≤ 1
once-few true = omega arith
once-few false = omega arith

pub few_of : (p : Recent → Bool) (recent : List Recent) → sum_by (λ r. once (p r)) recent ≤ length recent
few_of p recent = omega (arith, sum_by-le (λ (r : Recent). once (p r)) 1 recent (λ k d inside. once-few (p (get_or recent k d))))

size-few : (n : ℕ) (b : Bool) → n < 2 ^ 32 → cond b n 0 ≤ 4294967295
size-few n true small = omega (arith, small)
size-few n false small = omega arith

pub size_of : (key : List ℕ) (circuits : ℕ) (recent : List Recent) → All (IsSmall circuits) recent → sum_by (size key) recent ≤ length recent * 4294967295
size_of key circuits recent small = sum_by-le (size key) 4294967295 recent (λ k d inside. size-few (get_or recent k d).bytes (is_of key (get_or recent k d)) (small k d inside).1)

-- what holds of one holds of the list of it
pub single : {X : Type 0} (P : X → Type 0) (x : X) → P x → All P (x ∷ [])
single {X} P x here zero d inside = here
single {X} P x here (suc k) d inside = absurd (omega (arith, inside))

-- ---- draws

-- the keys of the kept draws of each circuit
abbrev pub keys_in : List (Buffer (List ℕ)) → List (List (List ℕ))
keys_in rings = map (λ q. q.items) rings

pub ring_keys : (rings : List (Buffer (List ℕ))) (c : ℕ) (ring : Buffer (List ℕ)) → c < length rings → get_or rings c no_ring ≡ ring → get_or (keys_in rings) c [] ≡ ring.items
ring_keys rings c ring inside is = get_or-map (λ (q : Buffer (List ℕ)). q.items) rings c no_ring [] inside ∙ ap (λ (q : Buffer (List ℕ)). q.items) is

draw_of : (o : Option Row) → 1 ≤ (row_in o).draws → is_some o ≡ true
draw_of None few = absurd (omega arith)
draw_of (Some row) few = refl

pub has_draw : (rows : Rows) (key : List ℕ) → 1 ≤ (row_at rows key).draws → IsTrue (has_row rows key)
has_draw rows key few = draw_of (get (pointwise nat_eq) rows key) few

-- the numbers of the key of the oldest draw of a circuit
pub oldest_counted : (k : List ℕ) (rest : List (List ℕ)) (recent : List Recent) (drawn : List (List (List ℕ))) (c : ℕ) (m : Rows) → c < length drawn → get_or drawn c [] ≡ k ∷ rest → IsCount (tallied recent drawn) m → 1 ≤ (row_at m k).draws
oldest_counted k rest recent drawn c m inside here is = grind (arith, common_steps, get_or-le-sum_by, sum_by-cons, among, nat_list_eq_equiv)

-- no key has more draws than fit
pub few_draws : (key : List ℕ) (rings : List (Buffer (List ℕ))) → All IsRing rings → sum_by (draws_among key) (keys_in rings) ≤ length rings * 4294967295
few_draws key rings small =
    omega (arith, length-map rings (λ (q : Buffer (List ℕ)). q.items), sum_by-le (draws_among key) 4294967295 (keys_in rings) (All-map (λ (kept : List (List ℕ)). draws_among key kept ≤ 4294967295) (λ (q : Buffer (List ℕ)). q.items) rings each))
  where
    each : All (λ (q : Buffer (List ℕ)). draws_among key q.items ≤ 4294967295) rings
    each k d inside =
        let q : Buffer (List ℕ) = get_or rings k d in
        omega (arith, sum_by-le (among key) 1 q.items (λ i e within. once-few (pointwise nat_eq key (get_or q.items i e))), (small k d inside).0, (small k d inside).2)

-- another ring of a circuit
pub draws_sound : (n : Numbers) (c : ℕ) (ring : Buffer (List ℕ)) (rows : Rows) → IsSound n → IsRing ring → IsCount (tallied n.recent.items (set (keys_in n.drawn.items) c ring.items)) rows
    → IsSound (record { recent = n.recent; drawn = with_item n.drawn c ring; rows = rows; came = n.came })
draws_sound n c ring rows sound fits counts = grind (arith, common_steps, tallied, map-set, All-set, length-set)

-- a full ring is pushed on after its oldest key left
full_keys : (items : List (List ℕ)) (capacity : ℕ) (key : List ℕ) → length items ≡ capacity → 1 ≤ capacity → keep_last capacity (items ++ key ∷ []) ≡ drop 1 items ++ key ∷ []
full_keys [] capacity key full some = absurd (omega (arith, full, some))
full_keys (x ∷ xs) capacity key full some = grind (arith, common_steps, length-append)

pub kept_full : (rings mid : List (Buffer (List ℕ))) (c : ℕ) (key : List ℕ) → c < length rings → IsRing (get_or rings c no_ring) → length (get_or rings c no_ring).items ≡ (get_or rings c no_ring).capacity
    → mid ≡ set rings c (without_oldest (get_or rings c no_ring)) → set mid c (with_newest (get_or mid c no_ring) key) ≡ set rings c (kept_with (get_or rings c no_ring) key)
kept_full rings mid c key inside fits full is = grind (arith, common_steps, get_or-set_same, set-set, full_keys)

pub kept_room : (rings : List (Buffer (List ℕ))) (c : ℕ) (key : List ℕ) → length (get_or rings c no_ring).items < (get_or rings c no_ring).capacity
    → set rings c (with_newest (get_or rings c no_ring) key) ≡ set rings c (kept_with (get_or rings c no_ring) key)
kept_room rings c key room = grind (arith, common_steps, length-append)
