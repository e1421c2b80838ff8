-- What is counted of a need is what is counted of its state; and what changes that.
use Rattle.gts_count.proofs.Cited.{◌≡◌, ℕ, zero, suc, ◌+◌, ◌-◌, ◌<◌, true, false, ◌||◌, ◌==◌, nat_lt, cond, List, [], ◌∷◌, ◌++◌, length, get_or, set, drop, map, zip, Option, Some, None, refl, sym, ap, ◌∙◌, inl, inr, arith, Bulletin, Circuit, CircuitNeed, CircuitState, Directory, Recent, State, Tally, all_owed_last, are_below, circuit_need, circuit_needs, drawn_of, enumerate_from, find, has, idle, keep_last, key_at, key_of, last_of, list_all, list_any, need, routed_to, tally, tally_at, with_routed, true≢false, eqb-true, eq-eqb, ne_eqb, ltb-true, or_left, or_right, or_cases, and_parts, drop-map, length-map, map-append, find_filter, has_drop, last_more, common_steps}
use Rattle.gts_count.proofs.WindowLemmas.{counts_window}

-- ---- a need has the bulletins that its kept draws have

-- the same of each position of a list
same_keys : (f g : ℕ → List ℕ) (ps : List ℕ) → ((p : ℕ) → has ps p ≡ true → f p ≡ g p) → map f ps ≡ map g ps
same_keys f g [] h = refl
same_keys f g (p ∷ ps) h =
    grind (arith, common_steps, or_left, or_right, eq-eqb, same_keys f g ps (λ q there. h q (or_right (p == q) (has ps q) there)))

-- a position that is kept on a circuit is needed
any_kept : (p : ℕ) (cs : List CircuitNeed) → list_any (λ c. has c.kept p) cs ≡ true → list_any (λ c. has c.waiting p || has c.kept p) cs ≡ true
any_kept p [] e = e
any_kept p (c ∷ cs) e = elim (or_cases (has c.kept p) (list_any (λ c. has c.kept p) cs) e) [
  | inl here ↦ or_left (has c.waiting p || has c.kept p) (list_any (λ c. has c.waiting p || has c.kept p) cs) (or_right (has c.waiting p) (has c.kept p) here)
  | inr there ↦ or_right (has c.waiting p || has c.kept p) (list_any (λ c. has c.waiting p || has c.kept p) cs) (any_kept p cs there)
]

-- its bulletin has its key in the need too
key-need : (d : Directory) (s : State) (p : ℕ) → list_any (λ c. has c.kept p) (circuit_needs d s) ≡ true → key_at (need d s).bulletins p ≡ key_at s.accepted p
key-need d s p kept = grind (arith, common_steps, find_filter, or_right, any_kept, eqb-true)

-- the positions that a circuit keeps are the last ones drawn
positions-enumerate : (n : ℕ) (xs : List ℕ) → map (λ (r : ℕ × ℕ). r.1) (enumerate_from n xs) ≡ xs
positions-enumerate n [] = refl
positions-enumerate n (x ∷ xs) = ap (λ (ys : List ℕ). x ∷ ys) (positions-enumerate (n + 1) xs)

pub kept-is : (k : ℕ) (q : CircuitState) → (circuit_need k q).kept ≡ last_of k q.taken
kept-is k q =
    let all : List (ℕ × ℕ) = enumerate_from q.earlier q.taken in
    let size : length all ≡ length q.taken = sym (length-map all (λ (r : ℕ × ℕ). r.1)) ∙ ap length (positions-enumerate q.earlier q.taken) in
    sym (drop-map (λ (r : ℕ × ℕ). r.1) (length all - k) all)
    ∙ ap (drop (length all - k)) (positions-enumerate q.earlier q.taken)
    ∙ ap (λ (n : ℕ). drop (n - k) q.taken) size

abbrev needs_of : List Circuit → List CircuitState → List CircuitNeed
needs_of rows qs = map (λ row. circuit_need row.0.kept row.1) (zip rows qs)

cons_lists : {X : Type 0} (x y : X) (xs ys : List X) → x ≡ y → xs ≡ ys → x ∷ xs ≡ y ∷ ys
cons_lists {X} x y xs ys e es = ap (λ (z : X). z ∷ xs) e ∙ ap (λ (zs : List X). y ∷ zs) es

drawn-need : (bs all : List Bulletin) (rows : List Circuit) (qs : List CircuitState) → ((p : ℕ) → list_any (λ c. has c.kept p) (needs_of rows qs) ≡ true → key_at bs p ≡ key_at all p)
    → map (λ (c : CircuitNeed). map (key_at bs) c.kept) (needs_of rows qs) ≡ drawn_of rows all (map (λ (q : CircuitState). q.taken) qs)
drawn-need bs all [] qs h = refl
drawn-need bs all (row ∷ rows) [] h = refl
drawn-need bs all (row ∷ rows) (q ∷ qs) h =
    let c : CircuitNeed = circuit_need row.kept q in
    cons_lists (map (key_at bs) c.kept) (map (key_at all) (last_of row.kept q.taken)) (map (λ (c : CircuitNeed). map (key_at bs) c.kept) (needs_of rows qs)) (drawn_of rows all (map (λ (q : CircuitState). q.taken) qs))
    (same_keys (key_at bs) (key_at all) c.kept (λ p there. h p (or_left (has c.kept p) (list_any (λ c. has c.kept p) (needs_of rows qs)) there)) ∙ ap (map (key_at all)) (kept-is row.kept q))
    (drawn-need bs all rows qs (λ p there. h p (or_right (has c.kept p) (list_any (λ c. has c.kept p) (needs_of rows qs)) there)))

pub tally_is : (a b : Tally) → a.recent ≡ b.recent → a.drawn ≡ b.drawn → a ≡ b
tally_is a b recent drawn = ap (λ (r : List Recent). record { recent = r; drawn = a.drawn }) recent ∙ ap (λ (k : List (List (List ℕ))). record { recent = b.recent; drawn = k }) drawn

-- what is counted of the need of a state
pub tally-need : (d : Directory) (s : State) → tally d (need d s) ≡ tally_at d s
tally-need d s = tally_is (tally d (need d s)) (tally_at d s) (counts_window d s) (drawn-need (need d s).bulletins s.accepted d.circuits s.circuits (key-need d s))

-- ---- what leaves the draws as they were

taken-routed : (cs : List ℕ) (p n : ℕ) (qs : List CircuitState) → map (λ (q : CircuitState). q.taken) (map (λ (r : ℕ × CircuitState). cond (has cs r.0) (with_routed p r.1) r.1) (enumerate_from n qs)) ≡ map (λ (q : CircuitState). q.taken) qs
taken-routed cs p n [] = refl
taken-routed cs p n (q ∷ qs) = grind (arith, common_steps, cons_lists, taken-routed cs p (n + 1) qs)

-- a bulletin is routed
pub takens-routed : (cs : List ℕ) (p : ℕ) (s : State) (qs : List CircuitState) → map (λ (q : CircuitState). q.taken) (routed_to cs p qs) ≡ map (λ (q : CircuitState). q.taken) qs
takens-routed cs p s qs = taken-routed cs p 0 qs

-- another circuit state with the same draws
pub takens-same : (qs : List CircuitState) (c : ℕ) (r : CircuitState) → r.taken ≡ (get_or qs c idle).taken → map (λ (q : CircuitState). q.taken) (set qs c r) ≡ map (λ (q : CircuitState). q.taken) qs
takens-same [] c r e = refl
takens-same (q ∷ qs) zero r e = ap (λ (t : List ℕ). t ∷ map (λ (q : CircuitState). q.taken) qs) e
takens-same (q ∷ qs) (suc c) r e = ap (λ (ts : List (List ℕ)). q.taken ∷ ts) (takens-same qs c r e)

-- the journal was opened again
pub takens-restarted : (rows : List Circuit) (qs : List CircuitState) → map (λ (q : CircuitState). q.taken) (all_owed_last rows qs) ≡ map (λ (q : CircuitState). q.taken) qs
takens-restarted [] [] = refl
takens-restarted (row ∷ rows) [] = refl
takens-restarted [] (q ∷ qs) = ap (λ (ts : List (List ℕ)). q.taken ∷ ts) (takens-restarted [] qs)
takens-restarted (row ∷ rows) (q ∷ qs) = ap (λ (ts : List (List ℕ)). q.taken ∷ ts) (takens-restarted rows qs)

-- ---- one bulletin more

find-more : (bs : List Bulletin) (b : Bulletin) (p : ℕ) → (b.position == p) ≡ false → find (λ x. x.position == p) (bs ++ b ∷ []) ≡ find (λ x. x.position == p) bs
find-more [] b p e = rw e refl
find-more (x ∷ bs) b p e = ap (λ (o : Option Bulletin). cond (x.position == p) (Some x) o) (find-more bs b p e)

key-more : (bs : List Bulletin) (b : Bulletin) (p : ℕ) → (b.position == p) ≡ false → key_at (bs ++ b ∷ []) p ≡ key_at bs p
key-more bs b p e = ap (λ (o : Option Bulletin). key_of (elim o as (λ _. List ℕ) [ None ↦ [] | Some b ↦ b.body ])) (find-more bs b p e)

all_has : (n : ℕ) (ps : List ℕ) (p : ℕ) → list_all (λ q. nat_lt q n) ps ≡ true → has ps p ≡ true → nat_lt p n ≡ true
all_has n [] p all there = absurd (true≢false (sym there))
all_has n (q ∷ ps) p all there = elim (or_cases (q == p) (has ps p) there) [
  | inl same ↦ ap (λ (x : ℕ). nat_lt x n) (sym (eqb-true q p same)) ∙ (and_parts (nat_lt q n) (list_all (λ q. nat_lt q n) ps) all).0
  | inr rest ↦ all_has n ps p (and_parts (nat_lt q n) (list_all (λ q. nat_lt q n) ps) all).1 rest
]

pub drawn-more : (rows : List Circuit) (bs : List Bulletin) (b : Bulletin) (qs : List CircuitState) → list_all (are_below b.position) qs ≡ true
    → drawn_of rows (bs ++ b ∷ []) (map (λ (q : CircuitState). q.taken) qs) ≡ drawn_of rows bs (map (λ (q : CircuitState). q.taken) qs)
drawn-more [] bs b qs all = refl
drawn-more (row ∷ rows) bs b [] all = refl
drawn-more (row ∷ rows) bs b (q ∷ qs) all =
    let both = and_parts (are_below b.position q) (list_all (are_below b.position) qs) all in
    let taken = (and_parts (list_all (λ p. nat_lt p b.position) q.routed) (list_all (λ p. nat_lt p b.position) q.taken) both.0).1 in
    cons_lists (map (key_at (bs ++ b ∷ [])) (last_of row.kept q.taken)) (map (key_at bs) (last_of row.kept q.taken)) (drawn_of rows (bs ++ b ∷ []) (map (λ (q : CircuitState). q.taken) qs)) (drawn_of rows bs (map (λ (q : CircuitState). q.taken) qs))
    (same_keys (key_at (bs ++ b ∷ [])) (key_at bs) (last_of row.kept q.taken)
    (λ p there. key-more bs b p (ne_eqb b.position p (λ e. below p (all_has b.position q.taken p taken (has_drop (length q.taken - row.kept) q.taken p there)) e))))
    (drawn-more rows bs b qs both.1)
  where
    below : (p : ℕ) → nat_lt p b.position ≡ true → b.position ≡ p → ⊥
    below p less e = let lt : p < b.position = ltb-true p b.position less in omega (arith, lt, e)

-- ---- one draw more

keys-more : (f : ℕ → List ℕ) (k : ℕ) (ts : List ℕ) (p : ℕ) → map f (last_of k (ts ++ p ∷ [])) ≡ keep_last k (map f (last_of k ts) ++ f p ∷ [])
keys-more f k ts p = grind (arith, common_steps, last_more, drop-map, length-map, map-append)

-- the draws of one circuit get one more
pub drawn-drew : (rows : List Circuit) (bs : List Bulletin) (qs : List CircuitState) (c p : ℕ) (r : CircuitState) → c < length rows → c < length qs → r.taken ≡ (get_or qs c idle).taken ++ p ∷ []
    → drawn_of rows bs (map (λ (q : CircuitState). q.taken) (set qs c r))
    ≡ set (drawn_of rows bs (map (λ (q : CircuitState). q.taken) qs)) c (keep_last (get_or (map (λ (row : Circuit). row.kept) rows) c 0) (get_or (drawn_of rows bs (map (λ (q : CircuitState). q.taken) qs)) c [] ++ key_at bs p ∷ []))
drawn-drew [] bs qs c p r inside within e = absurd (omega (arith, inside))
drawn-drew (row ∷ rows) bs [] c p r inside within e = absurd (omega (arith, within))
drawn-drew (row ∷ rows) bs (q ∷ qs) zero p r inside within e = grind (arith, common_steps, keys-more)
drawn-drew (row ∷ rows) bs (q ∷ qs) (suc c) p r inside within e =
    ap (λ (kss : List (List (List ℕ))). map (key_at bs) (last_of row.kept q.taken) ∷ kss) (drawn-drew rows bs qs c p r (omega (arith, inside)) (omega (arith, within)) e)
