-- What is let go under a directory in which circuits are closed: the state stays one that a history can have.
use Rattle.gts_migrate.proofs.Cited.{◌≡◌, ℕ, zero, suc, ◌+◌, ◌<◌, Bool, true, false, cond, ◌&&◌, ◌==◌, nat_lt, List, [], ◌∷◌, length, map, get_or, drop, zip, slice_get, None, Some, refl, sym, ap, ◌∙◌, arith, BeginWith, Circuit, CircuitNeed, CircuitState, Directory, HeldCircuit, IsHeld, IsOrdered, KeepsPlace, Need, State, TakesOver, are_below, begun_circuit, brought, circuit_need, circuit_need_of, due, each_brought, each_let_go, emptied, first_waiting, goes_on, goes_over, idle, is_sound, left_behind, let_go, list_all, need, need_of, owes_kept, restarted, sum_by, unused, waiting, waiting_closed, waits_closed, and_parts, lt-ltb, and_from, sum_by-cons, sound-parts, sound-held, waiting-left, held-over, over-restarted, all_pass, common_steps}
use Rattle.gts_event.specs.declared.values.CircuitNeed as values
use Rattle.gts_event.specs.declared.values.Need as need_values

-- ---- the state

length-let_go : (rows : List Circuit) (qs : List CircuitState) → length qs ≡ length rows → length (each_let_go rows qs) ≡ length rows
length-let_go [] qs e = e
length-let_go (row ∷ rows) [] e = absurd (omega (arith, e))
length-let_go (row ∷ rows) (q ∷ qs) e = ap suc (length-let_go rows qs (omega (arith, e)))

below_let_go : (count : ℕ) (rows : List Circuit) (qs : List CircuitState) → list_all (are_below count) qs ≡ true → list_all (are_below count) (each_let_go rows qs) ≡ true
below_let_go count [] qs h = h
below_let_go count (row ∷ rows) [] h = refl
below_let_go count (row ∷ rows) (q ∷ qs) h =
    let both = and_parts (are_below count q) (list_all (are_below count) qs) h in
    and_from (are_below count (cond row.closed (emptied q) q)) (list_all (are_below count) (each_let_go rows qs)) (here row.closed both.0) (below_let_go count rows qs both.1)
  where
    here : (closed : Bool) → are_below count q ≡ true → are_below count (cond closed (emptied q) q) ≡ true
    here false e = e
    here true e = (and_parts (list_all (λ p. nat_lt p count) q.routed) (list_all (λ p. nat_lt p count) q.taken) e).1

-- what is owed is kept as before
owes_let_go : (rows gone : List Circuit) (qs : List CircuitState) → list_all owes_kept (map (λ row. circuit_need row.0.kept row.1) (zip rows qs)) ≡ true
    → list_all owes_kept (map (λ row. circuit_need row.0.kept row.1) (zip rows (each_let_go gone qs))) ≡ true
owes_let_go rows [] qs h = h
owes_let_go [] (row ∷ gone) [] h = refl
owes_let_go (r ∷ rows) (row ∷ gone) [] h = refl
owes_let_go [] (row ∷ gone) (q ∷ qs) h = refl
owes_let_go (r ∷ rows) (row ∷ gone) (q ∷ qs) h =
    let both = and_parts (owes_kept (circuit_need r.kept q)) (list_all owes_kept (map (λ row. circuit_need row.0.kept row.1) (zip rows qs))) h in
    and_from (owes_kept (circuit_need r.kept (cond row.closed (emptied q) q))) (list_all owes_kept (map (λ row. circuit_need row.0.kept row.1) (zip rows (each_let_go gone qs))))
    (here row.closed both.0) (owes_let_go rows gone qs both.1)
  where
    here : (closed : Bool) → owes_kept (circuit_need r.kept q) ≡ true → owes_kept (circuit_need r.kept (cond closed (emptied q) q)) ≡ true
    here false e = e
    here true e = e

-- a circuit that is emptied is held as before
held_emptied : (s : State) (q : CircuitState) → HeldCircuit s.accepted s.count q → HeldCircuit s.accepted s.count (emptied q)
held_emptied s q h = grind (arith, common_steps)

held_each : (s : State) (rows : List Circuit) (qs : List CircuitState)
    → ((c : ℕ) → c < length qs → HeldCircuit s.accepted s.count (get_or qs c idle))
    → (c : ℕ) → c < length qs → HeldCircuit s.accepted s.count (get_or (each_let_go rows qs) c idle)
held_each s [] qs all c lt = all c lt
held_each s (row ∷ rows) [] all c lt = absurd (omega (arith, lt))
held_each s (row ∷ rows) (q ∷ qs) all zero lt = here row.closed (all 0 (omega arith))
  where
    here : (closed : Bool) → HeldCircuit s.accepted s.count q → HeldCircuit s.accepted s.count (cond closed (emptied q) q)
    here false e = e
    here true e = held_emptied s q e
held_each s (row ∷ rows) (q ∷ qs) all (suc c) lt = held_each s rows qs (λ d low. all (suc d) (omega (arith, low))) c (omega (arith, lt))

held-let_go : (d : Directory) (s : State) → IsHeld d s → IsHeld d (let_go d s)
held-let_go d s h =
    let same = h.ordered.circuits in
    record {
      ordered = record {
        circuits = length-let_go d.circuits s.circuits same;
        below = below_let_go s.count d.circuits s.circuits h.ordered.below;
        owed = owes_let_go d.circuits d.circuits s.circuits h.ordered.owed;
      };
      bodies = h.bodies;
      order = h.order;
      each = λ c lt. held_each s d.circuits s.circuits (λ k low. h.each k (omega (arith, low, same))) c (omega (arith, lt, same));
    }

-- ---- the state in which a need goes on

pub held-on : (new old : Directory) (n : Need) → TakesOver new old → is_sound old n ≡ true → IsHeld new (goes_on new old n)
held-on new old n e h = held-let_go new (goes_over new old n) (held-over new old n e h)

pub sound-on : (new old : Directory) (n : Need) → TakesOver new old → is_sound old n ≡ true → is_sound new (need new (goes_on new old n)) ≡ true
sound-on new old n e h = sound-held new (goes_on new old n) (sound-parts old n h).few (held-on new old n e h)

pub on-restarted : (new old : Directory) (s : State) → goes_on new old (need old (restarted old s)) ≡ goes_on new old (need old s)
on-restarted new old s = ap (let_go new) (over-restarted new old s)

-- ---- what is due

-- a circuit as it is brought along
abbrev under_row : ℕ → CircuitState → Bool → CircuitState
under_row k q same = begun_circuit (record (circuit_need k q) { kept = cond same (circuit_need k q).kept []; owed = [] })

-- what waits on a circuit is brought along or let go
waits_brought : (row next : Circuit) (k : ℕ) (q : CircuitState)
    → length (waiting (cond next.closed (emptied (begun_circuit (brought row next (circuit_need k q)))) (begun_circuit (brought row next (circuit_need k q)))))
    + waits_closed next (circuit_need k q)
    ≡ length (waiting q)
waits_brought row next k q = go next.closed (next.digits == row.digits)
  where
    go : (closed same : Bool) → length (waiting (cond closed (emptied (under_row k q same)) (under_row k q same))) + cond closed (length (waiting q)) 0 ≡ length (waiting q)
    go false true = let same = ap (λ (ps : List ℕ). length ps) (waiting-left k q) in omega (arith, same)
    go false false = let same = ap (λ (ps : List ℕ). length ps) (all_pass (waiting q)) in omega (arith, same)
    go true same = omega arith

none_closed : (rows : List Circuit) → waiting_closed rows [] ≡ 0
none_closed [] = refl
none_closed (row ∷ rows) = refl

due_none : (new : List Circuit) → sum_by (λ (q : CircuitState). length (waiting q)) (each_let_go new (map begun_circuit (each_brought [] new []))) ≡ 0
due_none [] = refl
due_none (next ∷ new) =
    let f : CircuitState → ℕ = λ q. length (waiting q) in
    let here : CircuitState = cond next.closed (emptied (begun_circuit unused)) (begun_circuit unused) in
    let first = sum_by-cons f here (each_let_go new (map begun_circuit (each_brought [] new []))) in
    let none = nothing next.closed in
    let rest = due_none new in
    omega (arith, first, none, rest)
  where
    nothing : (closed : Bool) → length (waiting (cond closed (emptied (begun_circuit unused)) (begun_circuit unused))) ≡ 0
    nothing false = refl
    nothing true = refl

due_each : (old new : List Circuit) (qs : List CircuitState) → length qs ≡ length old → BeginWith KeepsPlace old new
    → sum_by (λ (q : CircuitState). length (waiting q)) (each_let_go new (map begun_circuit (each_brought old new (map (λ row. circuit_need row.0.kept row.1) (zip old qs)))))
    + waiting_closed new (map (λ row. circuit_need row.0.kept row.1) (zip old qs))
    ≡ sum_by (λ (q : CircuitState). length (waiting q)) qs
due_each [] new [] e stays = let none = due_none new in let left = none_closed new in omega (arith, none, left)
due_each [] new (q ∷ qs) e stays = absurd (omega (arith, e))
due_each (row ∷ old) new [] e stays = absurd (omega (arith, e))
due_each (row ∷ old) [] (q ∷ qs) e stays = absurd stays
due_each (row ∷ old) (next ∷ new) (q ∷ qs) e stays =
    let f : CircuitState → ℕ = λ x. length (waiting x) in
    let c : CircuitNeed = circuit_need row.kept q in
    let cs : List CircuitNeed = map (λ row. circuit_need row.0.kept row.1) (zip old qs) in
    let brought_here : CircuitState = begun_circuit (brought row next c) in
    let here : CircuitState = cond next.closed (emptied brought_here) brought_here in
    let first = sum_by-cons f here (each_let_go new (map begun_circuit (each_brought old new cs))) in
    let all = sum_by-cons f q qs in
    let one = waits_brought row next row.kept q in
    let rest = due_each old new qs (omega (arith, e)) stays.1 in
    omega (arith, first, all, one, rest)

pub due-on : (new old : Directory) (s : State) → TakesOver new old → IsOrdered old s → due (goes_on new old (need old s)) + left_behind new (need old s) ≡ due s
due-on new old s e o = due_each old.circuits new.circuits s.circuits o.circuits e.circuits

-- ---- the loops over what waits on closed circuits

none_closed_at : (rows : List Circuit) (c : ℕ) (row : Circuit) → slice_get rows c ≡ Some row
    → waiting_closed (drop c rows) [] ≡ waits_closed row unused + waiting_closed (drop (suc c) rows) []
none_closed_at rows c row there = grind (arith, common_steps, none_closed)

-- one circuit more was looked at
pub closed_at : (rows : List Circuit) (cs : List CircuitNeed) (c : ℕ) (row : Circuit) → slice_get rows c ≡ Some row
    → waiting_closed (drop c rows) (drop c cs) ≡ waits_closed row (get_or cs c unused) + waiting_closed (drop (suc c) rows) (drop (suc c) cs)
closed_at [] cs c row there = absurd (cc)
closed_at (r ∷ rows) [] zero row there = grind (arith, common_steps, none_closed)
closed_at (r ∷ rows) [] (suc c) row there = none_closed_at rows c row there
closed_at (r ∷ rows) (q ∷ cs) zero row there = let same : r ≡ row = cc in ap (λ (x : Circuit). waits_closed x q + waiting_closed rows cs) same
closed_at (r ∷ rows) (q ∷ cs) (suc c) row there = closed_at rows cs c row there

none_first : (k : ℕ) (rows : List Circuit) → first_waiting k rows [] ≡ None
none_first k [] = refl
none_first k (row ∷ rows) = refl

none_first_at : (k : ℕ) (rows : List Circuit) (c : ℕ) (row : Circuit)
    → first_waiting k (drop c rows) [] ≡ cond (row.closed && nat_lt 0 0) (Some (k, 0)) (first_waiting (k + 1) (drop (suc c) rows) [])
none_first_at k rows c row = grind (arith, common_steps, none_first)

pub first_at : (k : ℕ) (rows : List Circuit) (cs : List CircuitNeed) (c : ℕ) (row : Circuit) → slice_get rows c ≡ Some row
    → first_waiting k (drop c rows) (drop c cs)
    ≡ cond (row.closed && nat_lt 0 (length (get_or cs c unused).waiting)) (Some (k, length (get_or cs c unused).waiting)) (first_waiting (k + 1) (drop (suc c) rows) (drop (suc c) cs))
first_at k [] cs c row there = absurd (cc)
first_at k (r ∷ rows) [] zero row there = grind (arith, common_steps, none_first)
first_at k (r ∷ rows) [] (suc c) row there = none_first_at k rows c row
first_at k (r ∷ rows) (q ∷ cs) zero row there = grind (arith, common_steps)
first_at k (r ∷ rows) (q ∷ cs) (suc c) row there = first_at k rows cs c row there

-- something waits there
pub found_here : (rows : List Circuit) (cs : List CircuitNeed) (c : ℕ) (row : Circuit) → slice_get rows c ≡ Some row → row.closed ≡ true
    → 0 < length (get_or cs c unused).waiting → first_waiting c (drop c rows) (drop c cs) ≡ Some (c, length (get_or cs c unused).waiting)
found_here rows cs c row there closed some = first_at c rows cs c row there ∙ rw (closed, lt-ltb 0 (length (get_or cs c unused).waiting) some) refl

-- the circuit is open
pub found_open : (rows : List Circuit) (cs : List CircuitNeed) (c : ℕ) (row : Circuit) → slice_get rows c ≡ Some row → row.closed ≡ false
    → first_waiting c (drop c rows) (drop c cs) ≡ first_waiting (c + 1) (drop (c + 1) rows) (drop (c + 1) cs)
found_open rows cs c row there shut =
    let one : c + 1 ≡ suc c = omega arith in
    first_at c rows cs c row there ∙ rw shut (ap (λ (k : ℕ). first_waiting (c + 1) (drop k rows) (drop k cs)) (sym one))

-- nothing waits there
pub found_none : (rows : List Circuit) (cs : List CircuitNeed) (c : ℕ) (row : Circuit) → slice_get rows c ≡ Some row → length (get_or cs c unused).waiting ≡ 0
    → first_waiting c (drop c rows) (drop c cs) ≡ first_waiting (c + 1) (drop (c + 1) rows) (drop (c + 1) cs)
found_none rows cs c row there none =
    let one : c + 1 ≡ suc c = omega arith in
    first_at c rows cs c row there ∙ nothing row.closed (length (get_or cs c unused).waiting) none
    ∙ ap (λ (k : ℕ). first_waiting (c + 1) (drop k rows) (drop k cs)) (sym one)
  where
    nothing : (closed : Bool) (n : ℕ) → n ≡ 0
        → cond (closed && nat_lt 0 n) (Some (c, n)) (first_waiting (c + 1) (drop (suc c) rows) (drop (suc c) cs)) ≡ first_waiting (c + 1) (drop (suc c) rows) (drop (suc c) cs)
    nothing false n e = refl
    nothing true n e = rw e refl

-- as many wait there
pub closed_here : (rows : List Circuit) (cs : List CircuitNeed) (c : ℕ) (row : Circuit) → slice_get rows c ≡ Some row → row.closed ≡ true
    → waiting_closed (drop c rows) (drop c cs) ≡ length (get_or cs c unused).waiting + waiting_closed (drop (c + 1) rows) (drop (c + 1) cs)
closed_here rows cs c row there closed =
    let one : c + 1 ≡ suc c = omega arith in
    closed_at rows cs c row there
    ∙ ap (λ (b : Bool). cond b (length (get_or cs c unused).waiting) 0 + waiting_closed (drop (suc c) rows) (drop (suc c) cs)) closed
    ∙ ap (λ (k : ℕ). length (get_or cs c unused).waiting + waiting_closed (drop k rows) (drop k cs)) (sym one)

pub closed_open : (rows : List Circuit) (cs : List CircuitNeed) (c : ℕ) (row : Circuit) → slice_get rows c ≡ Some row → row.closed ≡ false
    → waiting_closed (drop c rows) (drop c cs) ≡ 0 + waiting_closed (drop (c + 1) rows) (drop (c + 1) cs)
closed_open rows cs c row there shut =
    let one : c + 1 ≡ suc c = omega arith in
    closed_at rows cs c row there
    ∙ ap (λ (b : Bool). cond b (length (get_or cs c unused).waiting) 0 + waiting_closed (drop (suc c) rows) (drop (suc c) cs)) shut
    ∙ ap (λ (k : ℕ). 0 + waiting_closed (drop k rows) (drop k cs)) (sym one)

-- what is needed of a circuit, by its number
pub need_at : (cs : List values.CircuitNeed) (c : ℕ) (q : values.CircuitNeed) → c < length cs → q ≡ get_or cs c q → circuit_need_of q ≡ get_or (map circuit_need_of cs) c unused
need_at [] c q lt is = absurd (omega (arith, lt))
need_at (x ∷ cs) zero q lt is = ap circuit_need_of is
need_at (x ∷ cs) (suc c) q lt is = need_at cs c q (omega (arith, lt)) is

-- how many wait on a circuit of a need
pub waiting_there : (n : need_values.Need) (cs : List values.CircuitNeed) (c count : ℕ) → cs ≡ n.circuits → count ≡ length (get_or (map circuit_need_of cs) c unused).waiting
    → count ≡ length (get_or (need_of n).circuits c unused).waiting
waiting_there n cs c count same is = is ∙ ap (λ (xs : List values.CircuitNeed). length (get_or (map circuit_need_of xs) c unused).waiting) same
