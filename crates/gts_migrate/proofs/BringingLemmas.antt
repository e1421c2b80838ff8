-- What is needed of each circuit under a directory that takes over, by the circuit's number.
use Rattle.gts_migrate.proofs.Cited.{◌≡◌, ℕ, zero, suc, ◌+◌, ◌-◌, ◌<◌, ◌≤◌, Bool, true, false, not, cond, ◌==◌, nat_lt, List, [], ◌∷◌, length, map, get_or, take, drop, zip, ◌++◌, slice_get, Some, Result, Ok, Err, refl, sym, ap, ◌∙◌, arith, IfOk, Circuit, CircuitNeed, CircuitState, Directory, Need, begun_circuit, brought, circuit_need, circuit_need_of, circuits_under, each_brought, each_let_go, emptied, enumerate_from, has, is_circuit_sound, is_sound, last_of, list_all, unused, and_parts, lt-ltb, list_all_more, slice_get-get_or, map-append, take_at_read, length-enumerate_from, circuit-parts, sound-parts, filter_whole, common_steps}
use Rattle.gts_event.specs.declared.values.CircuitNeed as values_circuit

-- ---- lists

positions_drawn : (e : ℕ) (xs : List ℕ) → map (λ draw. draw.1) (enumerate_from e xs) ≡ xs
positions_drawn e [] = refl
positions_drawn e (x ∷ xs) = ap (λ (ys : List ℕ). x ∷ ys) (positions_drawn (e + 1) xs)

positions_left : (n e : ℕ) (xs : List ℕ) → map (λ draw. draw.1) (drop n (enumerate_from e xs)) ≡ drop n xs
positions_left zero e xs = positions_drawn e xs
positions_left (suc n) e [] = refl
positions_left (suc n) e (x ∷ xs) = positions_left n (e + 1) xs

-- ---- one circuit

-- the need of a circuit under a row that keeps so many draws
need_under : (count : ℕ) (c : CircuitNeed) → length c.kept ≤ c.draws → list_all (λ position. not (has c.kept position)) c.waiting ≡ true
    → circuit_need count (begun_circuit c) ≡ record c { kept = last_of count c.kept }
need_under count c few apart = grind (arith, common_steps, filter_whole, length-enumerate_from, positions_left)

none_apart : (ps : List ℕ) → list_all (λ position. not (has [] position)) ps ≡ true
none_apart [] = refl
none_apart (p ∷ ps) = none_apart ps

-- a circuit as it is brought along
abbrev under_row : Bool → CircuitNeed → CircuitState
under_row same c = begun_circuit (record c { kept = cond same c.kept []; owed = [] })

pub brought_under : (count : ℕ) (closed same : Bool) (c : CircuitNeed) → length c.kept ≤ c.draws → list_all (λ position. not (has c.kept position)) c.waiting ≡ true
    → circuit_need count (cond closed (emptied (under_row same c)) (under_row same c))
    ≡ record c { waiting = cond closed [] c.waiting; kept = last_of count (cond same c.kept []); owed = [] }
brought_under count false true c few apart = need_under count (record c { owed = [] }) few apart
brought_under count false false c few apart = need_under count (record c { kept = []; owed = [] }) (omega arith) (none_apart c.waiting)
brought_under count true true c few apart = need_under count (record c { waiting = []; owed = [] }) few refl
brought_under count true false c few apart = need_under count (record c { waiting = []; kept = []; owed = [] }) (omega arith) refl

-- ---- by number

unused_under : (closed : Bool) (k : ℕ) → circuit_need k (cond closed (emptied (begun_circuit unused)) (begun_circuit unused)) ≡ unused
unused_under false k = let none : 0 - k ≡ 0 = omega arith in rw none refl
unused_under true k = let none : 0 - k ≡ 0 = omega arith in rw none refl

further_at : (old new : List Circuit) (cs : List CircuitNeed) (c : ℕ) → length cs ≡ length old → length old ≤ c → c < length new
    → get_or (map (λ row. circuit_need row.0.kept row.1) (zip new (each_let_go new (map begun_circuit (each_brought old new cs))))) c unused ≡ unused
further_at old [] cs c e high low = absurd (omega (arith, low))
further_at [] (next ∷ new) cs zero e high low = unused_under next.closed next.kept
further_at [] (next ∷ new) cs (suc c) e high low = further_at [] new [] c refl (omega arith) (omega (arith, low))
further_at (row ∷ old) (next ∷ new) [] c e high low = absurd (omega (arith, e))
further_at (row ∷ old) (next ∷ new) (q ∷ cs) zero e high low = absurd (omega (arith, high))
further_at (row ∷ old) (next ∷ new) (q ∷ cs) (suc c) e high low = further_at old new cs c (omega (arith, e)) (omega (arith, high)) (omega (arith, low))

brought_at : (old new : List Circuit) (cs : List CircuitNeed) (c : ℕ) (row next : Circuit) → length cs ≡ length old → slice_get old c ≡ Some row → slice_get new c ≡ Some next
    → get_or (map (λ row. circuit_need row.0.kept row.1) (zip new (each_let_go new (map begun_circuit (each_brought old new cs))))) c unused
    ≡ circuit_need next.kept (cond next.closed (emptied (begun_circuit (brought row next (get_or cs c unused)))) (begun_circuit (brought row next (get_or cs c unused))))
brought_at [] new cs c row next e at there = absurd (cc)
brought_at (r ∷ old) [] cs c row next e at there = absurd (cc)
brought_at (r ∷ old) (s ∷ new) [] c row next e at there = absurd (omega (arith, e))
brought_at (r ∷ old) (s ∷ new) (q ∷ cs) zero row next e at there = let same : r ≡ row = cc in let too : s ≡ next = cc in cc
brought_at (r ∷ old) (s ∷ new) (q ∷ cs) (suc c) row next e at there = brought_at old new cs c row next (omega (arith, e)) at there

sound_at : (n : Need) (old : List Circuit) (cs : List CircuitNeed) (c : ℕ) (row : Circuit) → length cs ≡ length old → slice_get old c ≡ Some row
    → list_all (λ row. is_circuit_sound n row.0.kept row.1) (zip old cs) ≡ true → is_circuit_sound n row.kept (get_or cs c unused) ≡ true
sound_at n [] cs c row e at h = absurd (cc)
sound_at n (r ∷ old) [] c row e at h = absurd (omega (arith, e))
sound_at n (r ∷ old) (q ∷ cs) zero row e at h = grind (arith, common_steps, and_parts)
sound_at n (r ∷ old) (q ∷ cs) (suc c) row e at h =
    sound_at n old cs c row (omega (arith, e)) at (and_parts (is_circuit_sound n r.kept q) (list_all (λ r. is_circuit_sound n r.0.kept r.1) (zip old cs)) h).1

-- a circuit of the old directory, under its new row
pub under_at : (new old : Directory) (n : Need) (c : ℕ) (row next : Circuit) → is_sound old n ≡ true → slice_get old.circuits c ≡ Some row → slice_get new.circuits c ≡ Some next
    → get_or (circuits_under new old n) c unused
    ≡ record (get_or n.circuits c unused) {
      waiting = cond next.closed [] (get_or n.circuits c unused).waiting;
      kept = last_of next.kept (cond (next.digits == row.digits) (get_or n.circuits c unused).kept []);
      owed = [];
    }
under_at new old n c row next sound at there =
    let p = sound-parts old n sound in
    let s = circuit-parts n row.kept (get_or n.circuits c unused) (sound_at n old.circuits n.circuits c row p.same at p.circuits) in
    let size = s.size in
    brought_at old.circuits new.circuits n.circuits c row next p.same at there
    ∙ brought_under next.kept next.closed (next.digits == row.digits) (get_or n.circuits c unused) (omega (arith, size)) s.apart

-- a further one
pub under_further : (new old : Directory) (n : Need) (c : ℕ) → is_sound old n ≡ true → length old.circuits ≤ c → c < length new.circuits
    → unused ≡ get_or (circuits_under new old n) c unused
under_further new old n c sound high low = sym (further_at old.circuits new.circuits n.circuits c (sound-parts old n sound).same high low)

-- ---- all circuits

pub if_ok : {A E : Type 0} (P Q : A → Type 0) (r : Result A E) → ((x : A) → P x → Q x) → IfOk r P → IfOk r Q
if_ok P Q (Ok x) more h = more x h
if_ok P Q (Err e) more h = tt

pub length-under : (new old : Directory) (n : Need) → length (circuits_under new old n) ≡ length new.circuits
length-under new old n = under_each new.circuits old.circuits n.circuits
  where
    under_each : (new old : List Circuit) (cs : List CircuitNeed)
        → length (map (λ row. circuit_need row.0.kept row.1) (zip new (each_let_go new (map begun_circuit (each_brought old new cs))))) ≡ length new
    under_each [] old cs = refl
    under_each (next ∷ new) [] cs = ap suc (under_each new [] [])
    under_each (next ∷ new) (row ∷ old) [] = ap suc (under_each new old [])
    under_each (next ∷ new) (row ∷ old) (q ∷ cs) = ap suc (under_each new old cs)

-- one circuit more was brought
pub one_more : (found : List values_circuit.CircuitNeed) (made : values_circuit.CircuitNeed) (xs : List CircuitNeed) (c : ℕ) → map circuit_need_of found ≡ take c xs → c < length xs
    → circuit_need_of made ≡ get_or xs c unused → map circuit_need_of (found ++ made ∷ []) ≡ take (c + 1) xs
one_more found made xs c is low at = grind (arith, common_steps, map-append, take_at_read)

pub keep_more : (rows : List Circuit) (c : ℕ) (row : Circuit) → slice_get rows c ≡ Some row → c < length rows → 0 < row.kept
    → list_all (λ r. nat_lt 0 r.kept) (take c rows) ≡ true → list_all (λ r. nat_lt 0 r.kept) (take (c + 1) rows) ≡ true
keep_more rows c row there low some all =
    let found = slice_get-get_or rows c row low in
    let here : get_or rows c row ≡ row = cc in
    list_all_more (λ r. nat_lt 0 r.kept) rows c row low ∙ rw (all, here, lt-ltb 0 row.kept some) refl
