-- The recent bulletins, when one more is accepted.
use Rattle.gts_event.proofs.Cited.{◌≡◌, ℕ, zero, suc, ◌+◌, ◌-◌, ◌≤◌, min, Bool, true, nat_le, cond, List, [], ◌∷◌, ◌++◌, length, map, filter, drop, refl, sym, ap, ◌∙◌, arith, Bulletin, Directory, State, positions_of, range_with_len, recent, recent_among, recent_positions, drop-append-le, drop-map, length-map, length-append, map-append, length-range_with_len, filter-append, cases_lt, le-leb, leb-true, common_steps}
use Rattle.gts_event.proofs.ListLemmas.{filter_first}

all_still : (w count a n : ℕ) (bs : List Bulletin) → positions_of bs ≡ range_with_len a n → count + 1 ≤ a + w → filter (λ (b : Bulletin). nat_le (count + 1) (b.position + w)) bs ≡ bs
all_still w count a n [] e high = refl
all_still w count a zero (b ∷ bs) e high = absurd (cc)
all_still w count a (suc n) (b ∷ bs) e high =
    let first : b.position ≡ a = cc in
    let rest : positions_of bs ≡ range_with_len (a + 1) n = cc in
    let passes : nat_le (count + 1) (b.position + w) ≡ true = le-leb (count + 1) (b.position + w) (omega arith) in
    ap (λ t. cond t (b ∷ filter (λ (x : Bulletin). nat_le (count + 1) (x.position + w)) bs) (filter (λ (x : Bulletin). nat_le (count + 1) (x.position + w)) bs)) passes
    ∙ ap (λ (xs : List Bulletin). b ∷ xs) (all_still w count (a + 1) n bs rest (omega arith))

-- of the recent ones, the first is no longer recent where the window is full
old_goes : (w count : ℕ) (bs : List Bulletin) → 1 ≤ w → positions_of bs ≡ range_with_len (count - w) (min w count)
    → filter (λ (b : Bulletin). nat_le (count + 1) (b.position + w)) bs ≡ drop (length bs + 1 - w) bs
old_goes w count bs one e = grind (arith, common_steps, length-map, length-range_with_len, cases_lt, all_still, leb-true)

-- one bulletin more: those that are then among the last positions stay
pub recent_more : (d : Directory) (t : State) (b : Bulletin) (new : State) → new.count ≡ t.count + 1 → new.accepted ≡ t.accepted ++ b ∷ []
    → recent d new ≡ recent_among d new.count (recent d t ++ b ∷ [])
recent_more d t b new count accepted = grind (arith, common_steps, filter-append, filter_first, le-leb, leb-true)

-- where each recent position has its bulletin, as many of the last ones as the window has stay
pub recent_next : (d : Directory) (t : State) (b : Bulletin) (new : State) → 1 ≤ d.window → positions_of (recent d t) ≡ recent_positions d t.count → b.position ≡ t.count
    → new.count ≡ t.count + 1 → new.accepted ≡ t.accepted ++ b ∷ [] → recent d new ≡ drop (length (recent d t ++ b ∷ []) - d.window) (recent d t ++ b ∷ [])
recent_next d t b new one e at count accepted =
    let n : ℕ = t.count in
    let p : Bulletin → Bool = λ x. nat_le n (x.position + d.window) in
    let q : Bulletin → Bool = λ x. nat_le (n + 1) (x.position + d.window) in
    let bs : List Bulletin = recent d t in
    let size : length bs ≡ min d.window n = sym (length-map bs (λ (x : Bulletin). x.position)) ∙ ap length e ∙ length-range_with_len (n - d.window) (min d.window n) in
    let more : length (bs ++ b ∷ []) ≡ length bs + 1 = length-append bs (b ∷ []) in
    let last : q b ≡ true = le-leb (n + 1) (b.position + d.window) (omega arith) in
    ap (λ (k : ℕ). filter (λ (x : Bulletin). nat_le k (x.position + d.window)) new.accepted) count
    ∙ ap (filter q) accepted
    ∙ filter-append q t.accepted (b ∷ [])
    ∙ ap (λ (xs : List Bulletin). xs ++ filter q (b ∷ [])) (sym (filter_first p q t.accepted (λ x k. le-leb n (x.position + d.window) (let big = leb-true (n + 1) (x.position + d.window) k in omega (arith, big)))))
    ∙ ap (λ (xs : List Bulletin). xs ++ filter q (b ∷ [])) (old_goes d.window n bs one e)
    ∙ ap (λ t. drop (length bs + 1 - d.window) bs ++ cond t (b ∷ []) []) last
    ∙ sym (drop-append-le (length bs + 1 - d.window) bs (b ∷ []) (omega (arith, size)))
    ∙ ap (λ (k : ℕ). drop (k - d.window) (bs ++ b ∷ [])) (sym more)

range_drop : (k a n : ℕ) → drop k (range_with_len a n) ≡ range_with_len (a + k) (n - k)
range_drop zero a n = let same : a ≡ a + 0 = omega arith in let all : n ≡ n - 0 = omega arith in ap (λ (x : ℕ). range_with_len x n) same ∙ ap (λ (x : ℕ). range_with_len (a + 0) x) all
range_drop (suc k) a zero = let none : 0 ≡ 0 - suc k = omega arith in ap (λ (x : ℕ). range_with_len (a + suc k) x) none
range_drop (suc k) a (suc n) =
    let at : a + 1 + k ≡ a + suc k = omega arith in
    let left : n - k ≡ suc n - suc k = omega arith in
    range_drop k (a + 1) n ∙ ap (λ (x : ℕ). range_with_len x (n - k)) at ∙ ap (λ (x : ℕ). range_with_len (a + suc k) x) left

pub range_last : (a n : ℕ) → range_with_len a n ++ (a + n) ∷ [] ≡ range_with_len a (n + 1)
range_last a zero = let same : a + 0 ≡ a = omega arith in ap (λ (x : ℕ). x ∷ []) same
range_last a (suc n) = grind (arith, common_steps, range_last (a + 1) n)

-- their positions are the recent ones again
pub recent_all : (d : Directory) (t : State) (b : Bulletin) (new : State) → 1 ≤ d.window → positions_of (recent d t) ≡ recent_positions d t.count → b.position ≡ t.count
    → new.count ≡ t.count + 1 → new.accepted ≡ t.accepted ++ b ∷ [] → positions_of (recent d new) ≡ recent_positions d new.count
recent_all d t b new one e at count accepted =
    let n : ℕ = t.count in
    let w : ℕ = d.window in
    let bs : List Bulletin = recent d t in
    let a : ℕ = n - w in
    let m : ℕ = min w n in
    let size : length bs ≡ m = sym (length-map bs (λ (x : Bulletin). x.position)) ∙ ap length e ∙ length-range_with_len a m in
    let more : length (bs ++ b ∷ []) ≡ m + 1 = length-append bs (b ∷ []) ∙ ap (λ (x : ℕ). x + 1) size in
    let here : b.position ≡ a + m = omega arith in
    let first : a + (m + 1 - w) ≡ n + 1 - w = omega arith in
    let left : m + 1 - (m + 1 - w) ≡ min w (n + 1) = omega arith in
    ap positions_of (recent_next d t b new one e at count accepted)
    ∙ sym (drop-map (λ (x : Bulletin). x.position) (length (bs ++ b ∷ []) - w) (bs ++ b ∷ []))
    ∙ ap (λ (k : ℕ). drop (k - w) (map (λ (x : Bulletin). x.position) (bs ++ b ∷ []))) more
    ∙ ap (drop (m + 1 - w)) (map-append (λ (x : Bulletin). x.position) bs (b ∷ []) ∙ ap (λ (ps : List ℕ). ps ++ b.position ∷ []) e ∙ ap (λ (p : ℕ). range_with_len a m ++ p ∷ []) here ∙ range_last a m)
    ∙ range_drop (m + 1 - w) a (m + 1)
    ∙ ap (λ (x : ℕ). range_with_len x (m + 1 - (m + 1 - w))) first
    ∙ ap (λ (x : ℕ). range_with_len (n + 1 - w) x) left
    ∙ ap (recent_positions d) (sym count)
