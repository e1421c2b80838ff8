-- Numbers that differ, what is held on circuits, and the parts of soundness.
use Rattle.gts_checkpoint.proofs.Cited.{common_steps, ◌≡◌, ◌≢◌, ℕ, zero, suc, ◌+◌, ◌-◌, ◌<◌, ◌≤◌, Bool, true, false, not, ◌&&◌, ◌==◌, ◌⊎◌, inl, inr, nat_lt, nat_le, List, [], ◌∷◌, ◌++◌, length, get_or, map, filter, zip, slice_get, Some, None, Result, Ok, Err, refl, sym, ap, ◌∙◌, arith, Circuit, CircuitNeed, Directory, IfOk, IsNonDecreasing, IsPermutation, are_circuits_sound, ascends, circuit_need_of, has, has_counts, has_positions, is_distinct, is_held, is_kept, is_needed, is_recent, is_there, list_all, most_owed, need_of, and-false, and-true, and_parts, and_from, eq-eqb, ne_eqb, eqb-true, leb-true, le-leb, false_from_ne_true, cases_lt, list_all-append, length-filter, slice_get_cases, slice_get_read, IsPermutation-sym, All-permutation, sum_by-IsPermutation, list_any-IsPermutation}
use Rattle.gts_checkpoint.specs.Cited.{Need, is_circuit_sound}
use Rattle.gts_event.specs.declared.values.CircuitNeed as values
use Rattle.gts_event.specs.declared.values.Need as value_need
use Rattle.gts_checkpoint.proofs.AscendingLemmas.{rises, ascends-from}

same-tests : (a b : Bool) → (a ≡ true → b ≡ true) → (b ≡ true → a ≡ true) → a ≡ b
same-tests true b h k = sym (h refl)
same-tests false true h k = k refl
same-tests false false h k = refl

-- ---- how often a number stands in a list

abbrev count : ℕ → List ℕ → ℕ
count n xs = length (filter (λ m. m == n) xs)

count-same : (x : ℕ) (xs : List ℕ) (n : ℕ) → x ≡ n → count n (x ∷ xs) ≡ count n xs + 1
count-same x xs n e = rw (eq-eqb x n e) (omega arith)

count-other : (x : ℕ) (xs : List ℕ) (n : ℕ) → x ≢ n → count n (x ∷ xs) ≡ count n xs
count-other x xs n e = rw (ne_eqb x n e) refl

count-le : (x : ℕ) (xs : List ℕ) (n : ℕ) → count n xs ≤ count n (x ∷ xs)
count-le x xs n = grind (arith, common_steps, count-same, eqb-true)

count-none : (xs : List ℕ) (n : ℕ) → ((k : ℕ) → k < length xs → get_or xs k 0 ≢ n) → count n xs ≡ 0
count-none [] n h = refl
count-none (x ∷ xs) n h = count-other x xs n (h zero (omega arith)) ∙ count-none xs n (λ k l. h (suc k) (omega arith))

count-once : (xs : List ℕ) (i n : ℕ) → i < length xs → get_or xs i 0 ≡ n → ((k : ℕ) → k < length xs → k ≢ i → get_or xs k 0 ≢ n) → count n xs ≡ 1
count-once [] i n l e h = absurd (omega arith)
count-once (x ∷ xs) zero n l e h =
    let none = count-none xs n (λ k l'. h (suc k) (omega arith) (λ (e' : suc k ≡ 0). omega arith)) in omega (arith, none, count-same x xs n e)
count-once (x ∷ xs) (suc i) n l e h =
    count-other x xs n (h zero (omega arith) (λ (e' : zero ≡ suc i). omega arith))
    ∙ count-once xs i n (omega arith) e (λ k l' d. h (suc k) (omega arith) (λ (e' : suc k ≡ suc i). d (omega arith)))

count-some : (xs : List ℕ) (i n : ℕ) → i < length xs → get_or xs i 0 ≡ n → 1 ≤ count n xs
count-some [] i n l e = absurd (omega arith)
count-some (x ∷ xs) zero n l e = omega (arith, count-same x xs n e)
count-some (x ∷ xs) (suc i) n l e = let more = count-some xs i n (omega arith) e in omega (arith, more, count-le x xs n)

count-twice : (xs : List ℕ) (i j n : ℕ) → i < j → j < length xs → get_or xs i 0 ≡ n → get_or xs j 0 ≡ n → 2 ≤ count n xs
count-twice [] i j n t l e f = absurd (omega arith)
count-twice (x ∷ xs) i zero n t l e f = absurd (omega arith)
count-twice (x ∷ xs) zero (suc j) n t l e f = let more = count-some xs j n (omega arith) f in omega (arith, more, count-same x xs n e)
count-twice (x ∷ xs) (suc i) (suc j) n t l e f = let more = count-twice xs i j n (omega arith) (omega arith) e f in omega (arith, more, count-le x xs n)

count-permuted : (xs ys : List ℕ) (n : ℕ) → IsPermutation xs ys → count n ys ≡ count n xs
count-permuted xs ys n p = length-filter (λ m. m == n) ys ∙ sum_by-IsPermutation _ xs ys p ∙ sym (length-filter (λ m. m == n) xs)

-- ---- numbers that differ

all-at : (f : ℕ → Bool) (xs : List ℕ) → list_all f xs ≡ true → (k d : ℕ) → k < length xs → f (get_or xs k d) ≡ true
all-at f [] h k d l = absurd (omega arith)
all-at f (x ∷ xs) h zero d l = (and_parts (f x) (list_all f xs) h).0
all-at f (x ∷ xs) h (suc k) d l = all-at f xs (and_parts (f x) (list_all f xs) h).1 k d (omega arith)

all-from : (f : ℕ → Bool) (xs : List ℕ) → ((k : ℕ) → k < length xs → f (get_or xs k 0) ≡ true) → list_all f xs ≡ true
all-from f [] h = refl
all-from f (x ∷ xs) h = and_from (f x) (list_all f xs) (h zero (omega arith)) (all-from f xs (λ k l. h (suc k) (omega arith)))

distinct-permuted : (xs ys : List ℕ) → IsPermutation xs ys → is_distinct xs ≡ true → is_distinct ys ≡ true
distinct-permuted xs ys p h =
    let all = All-permutation (λ n. (count n xs == 1) ≡ true) xs ys p (all-at (λ n. count n xs == 1) xs h) in
    all-from (λ n. count n ys == 1) ys (λ k l. ap (λ (c : ℕ). c == 1) (count-permuted xs ys (get_or ys k 0) p) ∙ all k 0 l)

ascending-distinct : (xs : List ℕ) → ascends xs ≡ true → is_distinct xs ≡ true
ascending-distinct xs h =
    all-from (λ n. count n xs == 1) xs (λ k l. eq-eqb (count (get_or xs k 0) xs) 1 (count-once xs k (get_or xs k 0) l refl (λ j m d. apart k l j m d (cases_lt j k))))
  where
    apart : (k : ℕ) → k < length xs → (j : ℕ) → j < length xs → j ≢ k → (j < k) ⊎ (k ≤ j) → get_or xs j 0 ≢ get_or xs k 0
    apart k l j m d (inl t) = λ e. let up = rises xs j k h t l in absurd (omega arith)
    apart k l j m d (inr t) = λ e. let up = rises xs k j h (omega (arith, d)) m in absurd (omega arith)

distinct-ascending : (xs : List ℕ) → IsNonDecreasing xs → is_distinct xs ≡ true → ascends xs ≡ true
distinct-ascending xs up h = ascends-from xs (λ i l. strict i l (cases_lt (get_or xs i 0) (get_or xs (suc i) 0)))
  where
    strict : (i : ℕ) → suc i < length xs → (get_or xs i 0 < get_or xs (suc i) 0) ⊎ (get_or xs (suc i) 0 ≤ get_or xs i 0) → get_or xs i 0 < get_or xs (suc i) 0
    strict i l (inl t) = t
    strict i l (inr t) =
        let le : get_or xs i 0 ≤ get_or xs (suc i) 0 = up i (suc i) 0 (omega arith) l in
        let same : get_or xs (suc i) 0 ≡ get_or xs i 0 = omega arith in
        let one : count (get_or xs i 0) xs ≡ 1 = eqb-true _ 1 (all-at (λ n. count n xs == 1) xs h i 0 (omega arith)) in
        absurd (omega (arith, one, count-twice xs i (suc i) (get_or xs i 0) (omega arith) l refl same))

-- numbers differ exactly where they ascend once they are sorted
pub distinct-sorted : (xs ys : List ℕ) → IsPermutation xs ys → IsNonDecreasing ys → ascends ys ≡ is_distinct xs
distinct-sorted xs ys p up =
    same-tests (ascends ys) (is_distinct xs)
    (λ h. distinct-permuted ys xs (IsPermutation-sym xs ys p) (ascending-distinct ys h))
    (λ h. distinct-ascending ys up (distinct-permuted xs ys p h))

pub has-sorted : (xs ys : List ℕ) (n : ℕ) → IsPermutation xs ys → has ys n ≡ has xs n
has-sorted xs ys n p = sym (list_any-IsPermutation (λ m. m == n) xs ys p)

-- ---- tests that agree

pub all-agree : {X : Type 0} (f g : X → Bool) (xs : List X) → ((x : X) → f x ≡ g x) → list_all f xs ≡ list_all g xs
all-agree f g [] h = refl
all-agree f g (x ∷ xs) h = rw (h x, all-agree f g xs h) refl

-- ---- the parts of a circuit's soundness, in another order

pub regrouped : (a p1 p2 p3 p4 o1 o2 : Bool) → (a && p1 && p2 && p3 && p4 && o1 && o2) ≡ (a && (o1 && o2) && (p1 && p2 && p3 && p4))
regrouped false p1 p2 p3 p4 o1 o2 = refl
regrouped true false p2 p3 p4 o1 o2 = sym (and-false (o1 && o2))
regrouped true true false p3 p4 o1 o2 = sym (and-false (o1 && o2))
regrouped true true true false p4 o1 o2 = sym (and-false (o1 && o2))
regrouped true true true true false o1 o2 = sym (and-false (o1 && o2))
regrouped true true true true true o1 o2 = sym (and-true (o1 && o2))

-- the parts of what is asked of positions
pub positions-are : (test : ℕ → Bool) (waiting kept draws : List ℕ) → IsPermutation kept draws → IsNonDecreasing draws
    → has_positions test waiting kept
    ≡ (ascends waiting && ascends draws && list_all (λ n. not (has draws n)) waiting && (list_all test waiting && list_all test kept))
positions-are test waiting kept draws p up =
    rw (distinct-sorted kept draws p up, all-agree (λ n. not (has draws n)) (λ n. not (has kept n)) waiting (λ n. ap not (has-sorted kept draws n p)), list_all-append test waiting kept) refl

and-fails : (a b l rest : Bool) → (a ≡ false) ⊎ ((b ≡ false) ⊎ (l ≡ false)) → (a && b && l && rest) ≡ false
and-fails a b l rest (inl e) = rw e refl
and-fails a b l rest (inr (inl e)) = rw (e, and-false a) refl
and-fails a b l rest (inr (inr e)) = rw (e, and-false (a && b)) refl

pub positions-fail : (test : ℕ → Bool) (waiting kept draws : List ℕ) → IsPermutation kept draws → IsNonDecreasing draws
    → (ascends waiting ≡ false) ⊎ ((ascends draws ≡ false) ⊎ (list_all (λ n. not (has draws n)) waiting ≡ false)) → false ≡ has_positions test waiting kept
positions-fail test waiting kept draws p up h =
    sym (positions-are test waiting kept draws p up
    ∙ and-fails (ascends waiting) (ascends draws) (list_all (λ n. not (has draws n)) waiting) (list_all test waiting && list_all test kept) h)

pub positions-pass : (test : ℕ → Bool) (waiting kept draws : List ℕ) → IsPermutation kept draws → IsNonDecreasing draws
    → ascends waiting ≡ true → ascends draws ≡ true → list_all (λ n. not (has draws n)) waiting ≡ true
    → has_positions test waiting kept ≡ (list_all test waiting && list_all test kept)
positions-pass test waiting kept draws p up a b l = positions-are test waiting kept draws p up ∙ rw (a, b, l) refl

pub positions-agree : (f g : ℕ → Bool) (waiting kept : List ℕ) → ((p : ℕ) → f p ≡ g p) → has_positions f waiting kept ≡ has_positions g waiting kept
positions-agree f g waiting kept h = rw (all-agree f g (waiting ++ kept) h) refl

pub circuit-is : (n : Need) (kept : ℕ) (c : CircuitNeed) → has_counts n.accepted kept c ≡ true
    → (nat_le (length c.owed) most_owed && list_all (is_kept c) c.owed) ≡ true
    → is_circuit_sound n kept c ≡ has_positions (is_there n.bulletins) c.waiting c.kept
circuit-is n kept c counts owes = grind (arith, common_steps, regrouped)

-- ---- what is needed

recent-not : (d : Directory) (count position first : ℕ) → first ≡ count - d.window → position < first → is_recent d count position ≡ false
recent-not d count position first e l = false_from_ne_true (nat_le count (position + d.window)) (λ h. let le : count ≤ position + d.window = leb-true count (position + d.window) h in omega arith)

pub needed-not : (d : Directory) (count : ℕ) (cs : List CircuitNeed) (position first : ℕ) → first ≡ count - d.window → position < first → is_held cs position ≡ false
    → is_needed d count cs position ≡ false
needed-not d count cs position first e l h = rw (recent-not d count position first e l) h

-- ---- what is owed

pub kept-is : (draws kept first index : ℕ) → first ≡ draws - kept
    → (nat_le first index && nat_lt index draws) ≡ (nat_le draws (index + kept) && nat_lt index draws)
kept-is draws kept first index e = grind (arith, common_steps, le-leb, leb-true, same-tests)

-- ---- each circuit beside its row

pub rows-all : (f : Circuit × CircuitNeed → Bool) (rows : List Circuit) (qs : List values.CircuitNeed)
    → ((k : ℕ) (row : Circuit) (q : values.CircuitNeed) → slice_get rows k ≡ Some row → slice_get qs k ≡ Some q → f (row, circuit_need_of q) ≡ true)
    → list_all f (zip rows (map circuit_need_of qs)) ≡ true
rows-all f [] qs h = refl
rows-all f (row ∷ rows) [] h = refl
rows-all f (row ∷ rows) (q ∷ qs) h =
    and_from (f (row, circuit_need_of q)) (list_all f (zip rows (map circuit_need_of qs)))
    (h zero row q refl refl)
    (rows-all f rows qs (λ k row' q' a b. h (suc k) row' q' a b))

pub rows-not : (f : Circuit × CircuitNeed → Bool) (rows : List Circuit) (qs : List values.CircuitNeed)
    → (k : ℕ) (row : Circuit) (q : values.CircuitNeed) → slice_get rows k ≡ Some row → slice_get qs k ≡ Some q → f (row, circuit_need_of q) ≡ false
    → list_all f (zip rows (map circuit_need_of qs)) ≡ false
rows-not f [] qs k row q a b h = absurd (cc)
rows-not f (x ∷ rows) [] k row q a b h = absurd (cc)
rows-not f (x ∷ rows) (y ∷ qs) zero row q a b h = grind (arith, common_steps)
rows-not f (x ∷ rows) (y ∷ qs) (suc k) row q a b h = grind (arith, common_steps, rows-not f rows qs k row q a b h)

pub get-below : {X : Type 0} (xs : List X) (k : ℕ) (x : X) → slice_get xs k ≡ Some x → k < length xs
get-below [] k x e = absurd (cc)
get-below (y ∷ xs) zero x e = omega arith
get-below (y ∷ xs) (suc k) x e = let more = get-below xs k x e in omega arith

pub circuits-fail : (d : Directory) (m : value_need.Need) (k : ℕ) (q : values.CircuitNeed) → k < length d.circuits → k < length m.circuits → q ≡ get_or m.circuits k q
    → ((row : Circuit) → slice_get d.circuits k ≡ Some row → is_circuit_sound (need_of m) row.kept (circuit_need_of q) ≡ false)
    → are_circuits_sound d (need_of m) ≡ false
circuits-fail d m k q l lq is h = go (slice_get_cases d.circuits k).1
  where
    go : ((x : Circuit) × (k < length d.circuits) × (slice_get d.circuits k ≡ Some x) × (get_or d.circuits k x ≡ x)) ⊎ ((length d.circuits ≤ k) × (slice_get d.circuits k ≡ None))
        → are_circuits_sound d (need_of m) ≡ false
    go (inl x) =
        rows-not (λ row. is_circuit_sound (need_of m) row.0.kept row.1) d.circuits m.circuits k x.0 q x.2
        (slice_get_read m.circuits (length m.circuits) k q refl lq is) (h x.0 x.2)
    go (inr n) = absurd (omega (arith, n.0))

-- one circuit more was looked at
pub circuits-more : (f : Circuit → values.CircuitNeed → Bool) (rows : List Circuit) (qs : List values.CircuitNeed) (c : ℕ) (here : values.CircuitNeed)
    → ((k : ℕ) (row : Circuit) (q : values.CircuitNeed) → k < c → slice_get rows k ≡ Some row → slice_get qs k ≡ Some q → f row q ≡ true)
    → slice_get qs c ≡ Some here → ((row : Circuit) → slice_get rows c ≡ Some row → f row here ≡ true)
    → (k : ℕ) (row : Circuit) (q : values.CircuitNeed) → k < c + 1 → slice_get rows k ≡ Some row → slice_get qs k ≡ Some q → f row q ≡ true
circuits-more f rows qs c here before is h k row q l a b = grind (arith, common_steps, cases_lt)

pub if-ok : {T E : Type 0} (P Q : T → Type 0) (r : Result T E) → ((x : T) → P x → Q x) → IfOk r P → IfOk r Q
if-ok P Q (Ok x) f h = f x h
if-ok P Q (Err e) f h = tt
