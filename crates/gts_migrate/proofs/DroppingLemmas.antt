-- What is dropped has its receipts: bulletins and what waits ascend together, and each position that waits has its bulletin.
use Rattle.gts_migrate.proofs.Cited.{◌≡◌, ◌⊎◌, inl, inr, ℕ, zero, suc, ◌+◌, ◌<◌, ◌≤◌, Bool, true, false, cond, ◌||◌, ◌==◌, nat_lt, zip, List, [], ◌∷◌, ◌++◌, length, map, get_or, take, drop, slice_get, Some, is_ok, refl, sym, ap, ap₂, ◌∙◌, arith, Bulletin, CanDrop, Circuit, CircuitNeed, CircuitState, Climbs, Directory, Dropped, IsNonDecreasing, IsStart, Need, Refused, State, Waiting, all_owed_last, ascends, body_at, bulletin_of, circuit_need, circuit_need_of, circuit_needs, dropped_text, flat_map, has, have_bodies, heading_among, heading_of, is_bulletin, is_circuit_sound, is_there, list_all, need, need_of, on, positions_of, receipt_among, receipts_from, receipts_on, receipts_under, restarted, sayings, unused, waiting_at, and_parts, and_from, ltb-true, lt-ltb, eqb-true, eq-eqb, ne_eqb, IsNonDecreasingBy-from_default, flat_map-cons, list_all-append, append-nil, append_assoc, map-append, flat_map-append, take_at_read, sound-parts, circuit-parts, bulletin-parts, not_above, over-restarted, common_steps}
use Rattle.gts_event.specs.declared.values.CircuitNeed as circuit_values
use Rattle.gts_event.specs.declared.values.Need as need_values
use Rattle.gts_event.specs.declared.values.Bulletin as values

-- ---- numbers that ascend

above_more : (x y : ℕ) (zs : List ℕ) → x < y → list_all (nat_lt y) zs ≡ true → list_all (nat_lt x) zs ≡ true
above_more x y [] less h = refl
above_more x y (z ∷ zs) less h =
    let both = and_parts (nat_lt y z) (list_all (nat_lt y) zs) h in
    let next : y < z = ltb-true y z both.0 in
    and_from (nat_lt x z) (list_all (nat_lt x) zs) (lt-ltb x z (omega (arith, less, next))) (above_more x y zs less both.1)

climbs : (xs : List ℕ) → ascends xs ≡ true → Climbs xs
climbs [] h = tt
climbs (x ∷ []) h = (refl, tt)
climbs (x ∷ y ∷ zs) h =
    let both = and_parts (nat_lt x y) (ascends (y ∷ zs)) h in
    let more = climbs (y ∷ zs) both.1 in
    (and_from (nat_lt x y) (list_all (nat_lt x) zs) both.0 (above_more x y zs (ltb-true x y both.0) more.0), more)

above_at : (x : ℕ) (xs : List ℕ) (i : ℕ) → list_all (nat_lt x) xs ≡ true → i < length xs → x < get_or xs i 0
above_at x [] i h low = absurd (omega (arith, low))
above_at x (y ∷ ys) zero h low = ltb-true x y (and_parts (nat_lt x y) (list_all (nat_lt x) ys) h).0
above_at x (y ∷ ys) (suc i) h low = above_at x ys i (and_parts (nat_lt x y) (list_all (nat_lt x) ys) h).1 (omega (arith, low))

rises : (xs : List ℕ) → Climbs xs → (i j : ℕ) → i ≤ j → j < length xs → get_or xs i 0 ≤ get_or xs j 0
rises [] h i j le low = absurd (omega (arith, low))
rises (x ∷ xs) h zero zero le low = omega arith
rises (x ∷ xs) h zero (suc j) le low = let up = above_at x xs j h.0 (omega (arith, low)) in omega (arith, up)
rises (x ∷ xs) h (suc i) zero le low = absurd (omega (arith, le))
rises (x ∷ xs) h (suc i) (suc j) le low = rises xs h.1 i j (omega (arith, le)) (omega (arith, low))

pub in_order : (xs : List ℕ) → ascends xs ≡ true → IsNonDecreasing xs
in_order xs h = IsNonDecreasingBy-from_default (λ x. x) xs 0 (rises xs (climbs xs h))

-- ---- what waits on a circuit

-- a position that has its bulletin among those above a number is above it
above_there : (y x : ℕ) (bs : List Bulletin) → list_all (nat_lt y) (positions_of bs) ≡ true → is_there bs x ≡ true → y < x
above_there y x [] h there = absurd (cc)
above_there y x (b ∷ bs) h there = go (b.position == x) refl there (above_there y x bs both.1)
  where
    both : (nat_lt y b.position ≡ true) × (list_all (nat_lt y) (positions_of bs) ≡ true)
    both = and_parts (nat_lt y b.position) (list_all (nat_lt y) (positions_of bs)) h

    go : (t : Bool) → (b.position == x) ≡ t → (t || is_there bs x) ≡ true → (is_there bs x ≡ true → y < x) → y < x
    go true e found more = let same : b.position ≡ x = eqb-true b.position x e in let less : y < b.position = ltb-true y b.position both.0 in omega (arith, same, less)
    go false e found more = more found

-- a bulletin below all that wait is none of theirs
there_less : (b : Bulletin) (bs : List Bulletin) (w : List ℕ) → list_all (nat_lt b.position) w ≡ true → list_all (is_there (b ∷ bs)) w ≡ true → list_all (is_there bs) w ≡ true
there_less b bs [] above h = refl
there_less b bs (x ∷ w) above h =
    let up = and_parts (nat_lt b.position x) (list_all (nat_lt b.position) w) above in
    let both = and_parts (is_there (b ∷ bs) x) (list_all (is_there (b ∷ bs)) w) h in
    let less : b.position < x = ltb-true b.position x up.0 in
    and_from (is_there bs x) (list_all (is_there bs) w)
    (ap (λ (t : Bool). t || is_there bs x) (sym (ne_eqb b.position x (λ (e : b.position ≡ x). omega (arith, e, less)))) ∙ both.0)
    (there_less b bs w up.1 both.1)

heading_less : (b : Bulletin) (bs : List Bulletin) (x : ℕ) → b.position < x → heading_among (b ∷ bs) x ≡ heading_among bs x
heading_less b bs x less = rw (ne_eqb b.position x (λ (e : b.position ≡ x). omega (arith, e, less)), heading_among) refl

module _ (c : ℕ) where
  abbrev one : List Bulletin → ℕ → List ℕ
  one bs p = dropped_text c p (heading_among bs p)

  receipts_cons : (bs : List Bulletin) (x : ℕ) (w : List ℕ) → receipts_on c bs (x ∷ w) ≡ one bs x ++ receipts_on c bs w
  receipts_cons bs x w = flat_map-cons (one bs) x w

  others : (b : Bulletin) (bs : List Bulletin) (w : List ℕ) → list_all (nat_lt b.position) w ≡ true → receipts_on c (b ∷ bs) w ≡ receipts_on c bs w
  others b bs [] above = refl
  others b bs (x ∷ w) above =
      let up = and_parts (nat_lt b.position x) (list_all (nat_lt b.position) w) above in
      receipts_cons (b ∷ bs) x w
      ∙ ap₂ (λ (l m : List ℕ). l ++ m) (ap (dropped_text c x) (heading_less b bs x (ltb-true b.position x up.0))) (others b bs w up.1)
      ∙ sym (receipts_cons bs x w)

  none : (bs : List Bulletin) → flat_map (receipt_among c []) bs ≡ []
  none [] = refl
  none (b ∷ bs) = flat_map-cons (receipt_among c []) b bs ∙ none bs

  skipped : (x : ℕ) (w : List ℕ) (bs : List Bulletin) → list_all (nat_lt x) (positions_of bs) ≡ true → flat_map (receipt_among c (x ∷ w)) bs ≡ flat_map (receipt_among c w) bs
  skipped x w [] above = refl
  skipped x w (b ∷ bs) above =
      let up = and_parts (nat_lt x b.position) (list_all (nat_lt x) (positions_of bs)) above in
      let less : x < b.position = ltb-true x b.position up.0 in
      let here : has (x ∷ w) b.position ≡ has w b.position = ap (λ (t : Bool). t || has w b.position) (ne_eqb x b.position (λ (e : x ≡ b.position). omega (arith, e, less))) in
      flat_map-cons (receipt_among c (x ∷ w)) b bs
      ∙ ap₂ (λ (l m : List ℕ). l ++ m) (ap (λ (t : Bool). cond t (dropped_text c b.position (heading_of b.body)) []) here) (skipped x w bs up.1)
      ∙ sym (flat_map-cons (receipt_among c w) b bs)

  -- bulletin by bulletin, each that waits
  among : (bs : List Bulletin) (w : List ℕ) → Climbs (positions_of bs) → Climbs w → list_all (is_there bs) w ≡ true → flat_map (receipt_among c w) bs ≡ receipts_on c bs w
  among [] [] order up known = refl
  among [] (x ∷ w) order up known = absurd (cc)
  among (b ∷ bs) [] order up known = none (b ∷ bs)
  among (b ∷ bs) (x ∷ w) order up known =
      go (b.position == x) refl (λ there. among bs w order.1 up.1 there) (λ there. among bs (x ∷ w) order.1 up there)
    where
      both : (is_there (b ∷ bs) x ≡ true) × (list_all (is_there (b ∷ bs)) w ≡ true)
      both = and_parts (is_there (b ∷ bs) x) (list_all (is_there (b ∷ bs)) w) known

      go : (t : Bool) → (b.position == x) ≡ t → (list_all (is_there bs) w ≡ true → flat_map (receipt_among c w) bs ≡ receipts_on c bs w)
          → (list_all (is_there bs) (x ∷ w) ≡ true → flat_map (receipt_among c (x ∷ w)) bs ≡ receipts_on c bs (x ∷ w))
          → flat_map (receipt_among c (x ∷ w)) (b ∷ bs) ≡ receipts_on c (b ∷ bs) (x ∷ w)
      go true e rest same_rest =
          let same : b.position ≡ x = eqb-true b.position x e in
          let above : list_all (nat_lt b.position) w ≡ true = ap (λ (p : ℕ). list_all (nat_lt p) w) same ∙ up.0 in
          let here : has (x ∷ w) b.position ≡ true = ap (λ (t : Bool). t || has w b.position) (eq-eqb x b.position (sym same)) in
          let text : receipt_among c (x ∷ w) b ≡ dropped_text c b.position (heading_of b.body) = ap (λ (t : Bool). cond t (dropped_text c b.position (heading_of b.body)) []) here in
          let first : one (b ∷ bs) x ≡ dropped_text c b.position (heading_of b.body) =
          rw (e, heading_among) (ap (λ (p : ℕ). dropped_text c p (heading_of b.body)) (sym same)) in
          let more : list_all (nat_lt x) (positions_of bs) ≡ true = ap (λ (p : ℕ). list_all (nat_lt p) (positions_of bs)) (sym same) ∙ order.0 in
          flat_map-cons (receipt_among c (x ∷ w)) b bs
          ∙ ap₂ (λ (l m : List ℕ). l ++ m) (text ∙ sym first)
          (skipped x w bs more ∙ rest (there_less b bs w above both.1) ∙ sym (others b bs w above))
          ∙ sym (receipts_cons (b ∷ bs) x w)
      go false e rest same_rest =
          let found : is_there bs x ≡ true = ap (λ (t : Bool). t || is_there bs x) (sym e) ∙ both.0 in
          let less : b.position < x = above_there b.position x bs order.0 found in
          let above : list_all (nat_lt b.position) (x ∷ w) ≡ true =
          and_from (nat_lt b.position x) (list_all (nat_lt b.position) w) (lt-ltb b.position x less) (above_more b.position x w less up.0) in
          flat_map-cons (receipt_among c (x ∷ w)) b bs
          ∙ ap (λ (t : Bool). cond t (dropped_text c b.position (heading_of b.body)) [] ++ flat_map (receipt_among c (x ∷ w)) bs) (not_above b.position (x ∷ w) above)
          ∙ same_rest (there_less b bs (x ∷ w) above known)
          ∙ sym (others b bs (x ∷ w) above)

pub receipts_among : (c : ℕ) (bs : List Bulletin) (w : List ℕ) → CanDrop bs w → flat_map (receipt_among c w) bs ≡ receipts_on c bs w
receipts_among c bs w h = among c bs w (climbs (positions_of bs) h.order) (climbs w h.up) h.known

-- ---- what a sound need has

bodies_there : (d : Directory) (count : ℕ) (bs : List Bulletin) → list_all (is_bulletin d count) bs ≡ true → have_bodies bs ≡ true
bodies_there d count [] h = refl
bodies_there d count (b ∷ bs) h =
    let both = and_parts (is_bulletin d count b) (list_all (is_bulletin d count) bs) h in
    and_from (is_ok (body_at b.body)) (have_bodies bs) (bulletin-parts d count b both.0).good (bodies_there d count bs both.1)

-- a circuit of a need is sound, or isn't there
part_at : (n : Need) (rows : List Circuit) (cs : List CircuitNeed) (c : ℕ) → length cs ≡ length rows → list_all (λ row. is_circuit_sound n row.0.kept row.1) (zip rows cs) ≡ true
    → ((k : ℕ) × (is_circuit_sound n k (get_or cs c unused) ≡ true)) ⊎ (get_or cs c unused ≡ unused)
part_at n [] [] c e h = inr refl
part_at n [] (q ∷ cs) c e h = absurd (omega (arith, e))
part_at n (r ∷ rows) [] c e h = inr refl
part_at n (r ∷ rows) (q ∷ cs) zero e h = inl (r.kept, (and_parts (is_circuit_sound n r.kept q) (list_all (λ row. is_circuit_sound n row.0.kept row.1) (zip rows cs)) h).0)
part_at n (r ∷ rows) (q ∷ cs) (suc c) e h =
    part_at n rows cs c (omega (arith, e)) (and_parts (is_circuit_sound n r.kept q) (list_all (λ row. is_circuit_sound n row.0.kept row.1) (zip rows cs)) h).1

pub can_drop : (n : Need) (c : ℕ) → IsStart n → CanDrop n.bulletins (waiting_at n c)
can_drop n c start = grind (arith, common_steps, part_at, circuit-parts, and_parts, list_all-append, sound-parts, bodies_there)

-- ---- the loops

-- a bulletin has its body
pub body_here : (bs : List Bulletin) (i : ℕ) (b : Bulletin) → have_bodies bs ≡ true → i < length bs → b ≡ get_or bs i b → is_ok (body_at b.body) ≡ true
body_here [] i b h low is = absurd (omega (arith, low))
body_here (x ∷ bs) zero b h low is = ap (λ (y : Bulletin). is_ok (body_at y.body)) is ∙ (and_parts (is_ok (body_at x.body)) (have_bodies bs) h).0
body_here (x ∷ bs) (suc i) b h low is = body_here bs i b (and_parts (is_ok (body_at x.body)) (have_bodies bs) h).1 (omega (arith, low)) is

-- it is the bulletin at its place
pub bulletin_here : (bs : List values.Bulletin) (i : ℕ) (b : values.Bulletin) → i < length bs → b ≡ get_or bs i b → bulletin_of b ≡ get_or (map bulletin_of bs) i (bulletin_of b)
bulletin_here [] i b low is = absurd (omega (arith, low))
bulletin_here (x ∷ bs) zero b low is = ap bulletin_of is
bulletin_here (x ∷ bs) (suc i) b low is = bulletin_here bs i b (omega (arith, low)) is

-- one bulletin more was looked at
pub one_more_receipt : (text : List ℕ) (f : Bulletin → List ℕ) (bs : List values.Bulletin) (i : ℕ) (b : values.Bulletin) → i < length bs → b ≡ get_or bs i b
    → (text ++ flat_map f (map bulletin_of (take i bs))) ++ f (bulletin_of b) ≡ text ++ flat_map f (map bulletin_of (take (i + 1) bs))
one_more_receipt text f bs i b low is =
    grind (arith, common_steps, take_at_read, flat_map-cons, append-nil, append_assoc, flat_map-append, map-append)

-- no more circuits are left
none_from : (k : ℕ) (bs : List Bulletin) (rows : List Circuit) → receipts_from k bs rows [] ≡ []
none_from k bs [] = refl
none_from k bs (row ∷ rows) = refl

none_under : (k : ℕ) (bs : List Bulletin) (row : Circuit) → receipts_under k bs row unused ≡ []
none_under k bs row = grind (arith, common_steps)

-- one circuit more
pub receipts_at : (k : ℕ) (bs : List Bulletin) (rows : List Circuit) (cs : List CircuitNeed) (c : ℕ) (row : Circuit) → slice_get rows c ≡ Some row
    → receipts_from k bs (drop c rows) (drop c cs) ≡ receipts_under k bs row (get_or cs c unused) ++ receipts_from (k + 1) bs (drop (suc c) rows) (drop (suc c) cs)
receipts_at k bs [] cs c row there = absurd (cc)
receipts_at k bs (r ∷ rows) [] zero row there = sym (ap₂ (λ (l m : List ℕ). l ++ m) (none_under k bs row) (none_from (k + 1) bs rows))
receipts_at k bs (r ∷ rows) [] (suc c) row there = grind (arith, common_steps, none_from, none_under)
receipts_at k bs (r ∷ rows) (q ∷ cs) zero row there = let same : r ≡ row = cc in ap (λ (x : Circuit). receipts_under k bs x q ++ receipts_from (k + 1) bs rows cs) same
receipts_at k bs (r ∷ rows) (q ∷ cs) (suc c) row there = receipts_at k bs rows cs c row there

-- all were written
pub receipts_end : (k : ℕ) (bs : List Bulletin) (rows : List Circuit) (cs : List CircuitNeed) (c : ℕ) → length rows ≤ c → receipts_from k bs (drop c rows) cs ≡ []
receipts_end k bs [] cs zero le = refl
receipts_end k bs [] cs (suc c) le = refl
receipts_end k bs (row ∷ rows) cs zero le = absurd (omega (arith, le))
receipts_end k bs (row ∷ rows) cs (suc c) le = receipts_end k bs rows cs c (omega (arith, le))

-- the receipts of one circuit more were written
pub receipts_next : (text more : List ℕ) (bs : List Bulletin) (rows : List Circuit) (cs : List CircuitNeed) (c : ℕ) (row : Circuit) → slice_get rows c ≡ Some row
    → more ≡ text ++ receipts_under c bs row (get_or cs c unused)
    → more ++ receipts_from (c + 1) bs (drop (c + 1) rows) (drop (c + 1) cs) ≡ text ++ receipts_from c bs (drop c rows) (drop c cs)
receipts_next text more bs rows cs c row there is =
    let one : c + 1 ≡ suc c = omega arith in
    ap (λ (l : List ℕ). l ++ receipts_from (c + 1) bs (drop (c + 1) rows) (drop (c + 1) cs)) is
    ∙ append_assoc text (receipts_under c bs row (get_or cs c unused)) (receipts_from (c + 1) bs (drop (c + 1) rows) (drop (c + 1) cs))
    ∙ ap (λ (l : List ℕ). text ++ l)
    (ap (λ (k : ℕ). receipts_under c bs row (get_or cs c unused) ++ receipts_from (c + 1) bs (drop k rows) (drop k cs)) one
    ∙ sym (receipts_at c bs rows cs c row there))

-- what waits there, as it was read
pub waiting_same : (n : need_values.Need) (cs : List circuit_values.CircuitNeed) (c : ℕ) (w : List ℕ) → cs ≡ n.circuits → w ≡ (get_or (map circuit_need_of cs) c unused).waiting
    → w ≡ waiting_at (need_of n) c
waiting_same n cs c w same is = is ∙ ap (λ (xs : List circuit_values.CircuitNeed). (get_or (map circuit_need_of xs) c unused).waiting) same

-- ---- opened again

drops_again : (k : ℕ) (bs : List Bulletin) (new old : List Circuit) (qs : List CircuitState)
    → receipts_from k bs new (map (λ row. circuit_need row.0.kept row.1) (zip old (all_owed_last old qs)))
    ≡ receipts_from k bs new (map (λ row. circuit_need row.0.kept row.1) (zip old qs))
drops_again k bs [] old qs = refl
drops_again k bs (next ∷ new) [] qs = refl
drops_again k bs (next ∷ new) (row ∷ old) [] = refl
drops_again k bs (next ∷ new) (row ∷ old) (q ∷ qs) = ap (λ (l : List ℕ). receipts_under k bs next (circuit_need row.kept q) ++ l) (drops_again (k + 1) bs new old qs)

-- what is said is the same
pub sayings_again : (w : Waiting) (new old : Directory) (s : State) → sayings w new (need old (restarted old s)) ≡ sayings w new (need old s)
sayings_again Refused new old s = refl
sayings_again Dropped new old s =
    let bulletins : (need old (restarted old s)).bulletins ≡ (need old s).bulletins = ap (λ (t : State). t.accepted) (over-restarted new old s) in
    ap (on 0)
    (ap (λ (bs : List Bulletin). receipts_from 0 bs new.circuits (circuit_needs old (restarted old s))) bulletins
    ∙ drops_again 0 (need old s).bulletins new.circuits old.circuits s.circuits)

-- nothing is said where what waits is refused
pub nothing_refused : (w : Waiting) (new : Directory) (n : Need) → w ≡ Refused → sayings w new n ≡ []
nothing_refused w new n is = ap (λ (v : Waiting). sayings v new n) is

pub no_bytes : (bytes : List ℕ) → on 0 bytes ≡ [] → bytes ≡ []
no_bytes [] none = refl
no_bytes (x ∷ bytes) none = absurd (cc none)
