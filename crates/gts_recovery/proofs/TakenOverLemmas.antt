-- What a need brings under a directory that takes over from its own.
use Rattle.gts_recovery.proofs.Cited.{◌≡◌, ℕ, zero, suc, ◌+◌, ◌<◌, ◌≤◌, Bool, true, false, not, cond, ◌||◌, ◌==◌, List, [], ◌∷◌, length, map, filter, get_or, slice_get, Some, zip, refl, sym, ap, ◌∙◌, arith, BeginWith, Bulletin, Circuit, CircuitNeed, CircuitState, Directory, HeldCircuit, IsHeld, IsOrdered, KeepsPlace, Need, SoundCircuit, State, TakesOver, all_owed_last, are_below, begun, begun_circuit, brought, circuit_need, drawn, draws, due, each_brought, goes_over, has, idle, is_bulletin, is_circuit_sound, is_sound, list_all, list_any, need, on_circuit, owes_kept, restarted, sum_by, unused, waiting, length-map, sum_by-cons, lt-ltb, ltb-true, eq-eqb, ne_eqb, and_parts as and_true, and_from as both_true, circuit-parts, sound-parts, held-begun, sound-held, waiting-left, filter_same, all_pass, common_steps}

-- ---- tests

-- a filter leaves no more
few_left : (f : ℕ → Bool) (xs : List ℕ) → length (filter f xs) ≤ length xs
few_left f [] = omega arith
few_left f (x ∷ xs) = grind (arith, common_steps, few_left f xs)

at_least : {A : Type 0} (Stays : A → A → Type 0) (old new : List A) → BeginWith Stays old new → length old ≤ length new
at_least Stays [] new h = omega arith
at_least Stays (row ∷ old) [] h = absurd h
at_least Stays (row ∷ old) (next ∷ new) h = let rest = at_least Stays old new h.1 in omega (arith, rest)

-- ---- bulletins

bulletin-over : (new old : Directory) (accepted : ℕ) (b : Bulletin) → TakesOver new old → is_bulletin old accepted b ≡ true → is_bulletin new accepted b ≡ true
bulletin-over new old accepted b e h = grind (arith, common_steps, at_least, and_true, ltb-true, both_true, lt-ltb)

bulletins-over : (new old : Directory) (accepted : ℕ) (bs : List Bulletin) → TakesOver new old → list_all (is_bulletin old accepted) bs ≡ true → list_all (is_bulletin new accepted) bs ≡ true
bulletins-over new old accepted [] e h = refl
bulletins-over new old accepted (b ∷ bs) e h =
    let both = and_true (is_bulletin old accepted b) (list_all (is_bulletin old accepted) bs) h in
    both_true (is_bulletin new accepted b) (list_all (is_bulletin new accepted) bs) (bulletin-over new old accepted b e both.0) (bulletins-over new old accepted bs e both.1)

-- ---- circuits

length-brought : (old new : List Circuit) (cs : List CircuitNeed) → length (each_brought old new cs) ≡ length new
length-brought old [] cs = refl
length-brought [] (next ∷ new) cs = ap suc (length-brought [] new [])
length-brought (row ∷ old) (next ∷ new) [] = ap suc (length-brought old new [])
length-brought (row ∷ old) (next ∷ new) (c ∷ cs) = ap suc (length-brought old new cs)

held_unused : (n : Need) → HeldCircuit n.bulletins n.accepted (begun_circuit unused)
held_unused n = record { few = omega arith; up = tt; once = λ p. omega arith; routed_there = refl; taken_there = refl; owes_few = omega arith }

held_brought : (n : Need) (row next : Circuit) (c : CircuitNeed) → SoundCircuit n row.kept c → HeldCircuit n.bulletins n.accepted (begun_circuit c)
    → HeldCircuit n.bulletins n.accepted (begun_circuit (brought row next c))
held_brought n row next c p h = grind (arith, common_steps, few_left)

held_each : (n : Need) (old new : List Circuit) (cs : List CircuitNeed) → length cs ≡ length old
    → list_all (λ row. is_circuit_sound n row.0.kept row.1) (zip old cs) ≡ true
    → ((c : ℕ) → c < length cs → HeldCircuit n.bulletins n.accepted (get_or (map begun_circuit cs) c idle))
    → (c : ℕ) → c < length new → HeldCircuit n.bulletins n.accepted (get_or (map begun_circuit (each_brought old new cs)) c idle)
held_each n old [] cs e h all c lt = absurd (omega (arith, lt))
held_each n [] (next ∷ new) cs e h all zero lt = held_unused n
held_each n [] (next ∷ new) cs e h all (suc c) lt = held_each n [] new [] refl refl (λ d low. absurd (omega (arith, low))) c (omega (arith, lt))
held_each n (row ∷ old) (next ∷ new) [] e h all c lt = absurd (omega (arith, e))
held_each n (row ∷ old) (next ∷ new) (q ∷ cs) e h all zero lt =
    held_brought n row next q
    (circuit-parts n row.kept q (and_true (is_circuit_sound n row.kept q) (list_all (λ r. is_circuit_sound n r.0.kept r.1) (zip old cs)) h).0)
    (all 0 (omega arith))
held_each n (row ∷ old) (next ∷ new) (q ∷ cs) e h all (suc c) lt =
    held_each n old new cs (omega (arith, e)) (and_true (is_circuit_sound n row.kept q) (list_all (λ r. is_circuit_sound n r.0.kept r.1) (zip old cs)) h).1
    (λ d low. all (suc d) (omega (arith, low))) c (omega (arith, lt))

below_brought : (count : ℕ) (row next : Circuit) (c : CircuitNeed) → are_below count (begun_circuit c) ≡ true → are_below count (begun_circuit (brought row next c)) ≡ true
below_brought count row next c h = grind (arith, common_steps, and_true, both_true)

below_each : (count : ℕ) (old new : List Circuit) (cs : List CircuitNeed) → list_all (are_below count) (map begun_circuit cs) ≡ true
    → list_all (are_below count) (map begun_circuit (each_brought old new cs)) ≡ true
below_each count old [] cs h = refl
below_each count [] (next ∷ new) cs h = below_each count [] new [] refl
below_each count (row ∷ old) (next ∷ new) [] h = below_each count old new [] refl
below_each count (row ∷ old) (next ∷ new) (q ∷ cs) h =
    let both = and_true (are_below count (begun_circuit q)) (list_all (are_below count) (map begun_circuit cs)) h in
    both_true (are_below count (begun_circuit (brought row next q))) (list_all (are_below count) (map begun_circuit (each_brought old new cs)))
    (below_brought count row next q both.0) (below_each count old new cs both.1)

-- nothing is owed
owes_none : (rows old new : List Circuit) (cs : List CircuitNeed)
    → list_all owes_kept (map (λ row. circuit_need row.0.kept row.1) (zip rows (map begun_circuit (each_brought old new cs)))) ≡ true
owes_none [] old new cs = refl
owes_none (r ∷ rows) old [] cs = refl
owes_none (r ∷ rows) [] (next ∷ new) cs = owes_none rows [] new []
owes_none (r ∷ rows) (row ∷ old) (next ∷ new) [] = owes_none rows old new []
owes_none (r ∷ rows) (row ∷ old) (next ∷ new) (q ∷ cs) = owes_none rows old new cs

-- ---- the state

pub held-over : (new old : Directory) (n : Need) → TakesOver new old → is_sound old n ≡ true → IsHeld new (goes_over new old n)
held-over new old n e h =
    let p = sound-parts old n h in
    let start : IsHeld old (begun n) = held-begun old n h in
    record {
      ordered = record {
        circuits = length-map (each_brought old.circuits new.circuits n.circuits) begun_circuit ∙ length-brought old.circuits new.circuits n.circuits;
        below = below_each n.accepted old.circuits new.circuits n.circuits start.ordered.below;
        owed = owes_none new.circuits old.circuits new.circuits n.circuits;
      };
      bodies = bulletins-over new old n.accepted n.bulletins e p.bodies;
      order = start.order;
      each = held_each n old.circuits new.circuits n.circuits p.same p.circuits (λ c low. start.each c (let same = p.same in omega (arith, low, same)));
    }

pub sound-over : (new old : Directory) (n : Need) → TakesOver new old → is_sound old n ≡ true → is_sound new (need new (goes_over new old n)) ≡ true
sound-over new old n e h = sound-held new (goes_over new old n) (sound-parts old n h).few (held-over new old n e h)

-- ---- opened again

brought_again : (old new : List Circuit) (qs : List CircuitState)
    → each_brought old new (map (λ row. circuit_need row.0.kept row.1) (zip old (all_owed_last old qs)))
    ≡ each_brought old new (map (λ row. circuit_need row.0.kept row.1) (zip old qs))
brought_again old [] qs = refl
brought_again [] (next ∷ new) qs = refl
brought_again (row ∷ old) (next ∷ new) [] = refl
brought_again (row ∷ old) (next ∷ new) (q ∷ qs) = grind (arith, common_steps, brought_again old new qs)

held_again : (rows : List Circuit) (qs : List CircuitState) (p : ℕ)
    → list_any (λ c. has c.waiting p || has c.kept p) (map (λ row. circuit_need row.0.kept row.1) (zip rows (all_owed_last rows qs)))
    ≡ list_any (λ c. has c.waiting p || has c.kept p) (map (λ row. circuit_need row.0.kept row.1) (zip rows qs))
held_again [] qs p = refl
held_again (row ∷ rows) [] p = refl
held_again (row ∷ rows) (q ∷ qs) p = grind (arith, common_steps, held_again rows qs p)

pub over-restarted : (new old : Directory) (s : State) → goes_over new old (need old (restarted old s)) ≡ goes_over new old (need old s)
over-restarted new old s = grind (arith, common_steps, brought_again, filter_same, held_again)

-- ---- what is due

waits_brought : (row next : Circuit) (k : ℕ) (q : CircuitState) → waiting (begun_circuit (brought row next (circuit_need k q))) ≡ waiting q
waits_brought row next k q = go (next.digits == row.digits)
  where
    go : (same : Bool) → waiting (begun_circuit (record (circuit_need k q) { kept = cond same (circuit_need k q).kept []; owed = [] })) ≡ waiting q
    go true = waiting-left k q
    go false = all_pass (waiting q)

due_none : (new : List Circuit) → sum_by (λ (q : CircuitState). length (waiting q)) (map begun_circuit (each_brought [] new [])) ≡ 0
due_none [] = refl
due_none (next ∷ new) = due_none new

due_each : (old new : List Circuit) (qs : List CircuitState) → length qs ≡ length old → BeginWith KeepsPlace old new
    → sum_by (λ (q : CircuitState). length (waiting q)) (map begun_circuit (each_brought old new (map (λ row. circuit_need row.0.kept row.1) (zip old qs))))
    ≡ sum_by (λ (q : CircuitState). length (waiting q)) qs
due_each [] new [] e stays = due_none new
due_each [] new (q ∷ qs) e stays = absurd (omega (arith, e))
due_each (row ∷ old) new [] e stays = absurd (omega (arith, e))
due_each (row ∷ old) [] (q ∷ qs) e stays = absurd stays
due_each (row ∷ old) (next ∷ new) (q ∷ qs) e stays =
    let f : CircuitState → ℕ = λ x. length (waiting x) in
    let here : CircuitState = begun_circuit (brought row next (circuit_need row.kept q)) in
    let behind : List CircuitState = map begun_circuit (each_brought old new (map (λ row. circuit_need row.0.kept row.1) (zip old qs))) in
    sum_by-cons f here behind
    ∙ ap (λ (m : ℕ). m + sum_by f behind) (ap (λ (ps : List ℕ). length ps) (waits_brought row next row.kept q))
    ∙ ap (λ (m : ℕ). length (waiting q) + m) (due_each old new qs (omega (arith, e)) stays.1)
    ∙ sym (sum_by-cons f q qs)

pub due-over : (new old : Directory) (s : State) → TakesOver new old → IsOrdered old s → due (goes_over new old (need old s)) ≡ due s
due-over new old s e o = due_each old.circuits new.circuits s.circuits o.circuits e.circuits

-- ---- by circuit

-- what waits and how many were drawn, under any two rows
waits_same : (row next : Circuit) (c : CircuitNeed) → list_all (λ position. not (has c.kept position)) c.waiting ≡ true → waiting (begun_circuit (brought row next c)) ≡ waiting (begun_circuit c)
waits_same row next c apart = go (next.digits == row.digits)
  where
    all_stay : (ps : List ℕ) → list_all (λ position. not (has c.kept position)) ps ≡ true → filter (λ p. not (has c.kept p)) ps ≡ ps
    all_stay [] h = refl
    all_stay (p ∷ ps) h =
        let both = and_true (not (has c.kept p)) (list_all (λ position. not (has c.kept position)) ps) h in
        ap (λ (b : Bool). cond b (p ∷ filter (λ r. not (has c.kept r)) ps) (filter (λ r. not (has c.kept r)) ps)) both.0 ∙ ap (λ (rs : List ℕ). p ∷ rs) (all_stay ps both.1)

    go : (same : Bool) → waiting (begun_circuit (record c { kept = cond same c.kept []; owed = [] })) ≡ waiting (begun_circuit c)
    go true = refl
    go false = all_pass c.waiting ∙ sym (all_stay c.waiting apart)

draws_same : (row next : Circuit) (c : CircuitNeed) → length c.kept ≤ c.draws → draws (begun_circuit (brought row next c)) ≡ draws (begun_circuit c)
draws_same row next c few = grind (arith, common_steps)

-- each circuit of the old directory
each_at : (P : CircuitState → CircuitState → Type 0) (n : Need) (old new : List Circuit) (cs : List CircuitNeed) → length cs ≡ length old → BeginWith KeepsPlace old new
    → list_all (λ row. is_circuit_sound n row.0.kept row.1) (zip old cs) ≡ true
    → ((row next : Circuit) (q : CircuitNeed) → SoundCircuit n row.kept q → P (begun_circuit (brought row next q)) (begun_circuit q))
    → (c : ℕ) → c < length old → P (get_or (map begun_circuit (each_brought old new cs)) c idle) (get_or (map begun_circuit cs) c idle)
each_at P n [] new cs e stays h each c lt = absurd (omega (arith, lt))
each_at P n (row ∷ old) [] cs e stays h each c lt = absurd stays
each_at P n (row ∷ old) (next ∷ new) [] e stays h each c lt = absurd (omega (arith, e))
each_at P n (row ∷ old) (next ∷ new) (q ∷ cs) e stays h each zero lt = grind (arith, common_steps, circuit-parts, and_true)
each_at P n (row ∷ old) (next ∷ new) (q ∷ cs) e stays h each (suc c) lt =
    each_at P n old new cs (omega (arith, e)) stays.1 (and_true (is_circuit_sound n row.kept q) (list_all (λ r. is_circuit_sound n r.0.kept r.1) (zip old cs)) h).1 each c (omega (arith, lt))

pub waiting-over : (new old : Directory) (n : Need) (c : ℕ) → TakesOver new old → is_sound old n ≡ true → c < length old.circuits
    → waiting (on_circuit (goes_over new old n) c) ≡ waiting (on_circuit (begun n) c)
waiting-over new old n c e h lt =
    let p = sound-parts old n h in
    each_at (λ q r. waiting q ≡ waiting r) n old.circuits new.circuits n.circuits p.same e.circuits p.circuits (λ row next q s. waits_same row next q s.apart) c lt

pub draws-over : (new old : Directory) (n : Need) (c : ℕ) → TakesOver new old → is_sound old n ≡ true → c < length old.circuits
    → draws (on_circuit (goes_over new old n) c) ≡ draws (on_circuit (begun n) c)
draws-over new old n c e h lt =
    let p = sound-parts old n h in
    each_at (λ q r. draws q ≡ draws r) n old.circuits new.circuits n.circuits p.same e.circuits p.circuits
    (λ row next q s. draws_same row next q (let size = s.size in omega (arith, size))) c lt

-- a circuit that has both rows
brought_at : (old new : List Circuit) (cs : List CircuitNeed) (c : ℕ) (row next : Circuit) → length cs ≡ length old → slice_get old c ≡ Some row → slice_get new c ≡ Some next
    → get_or (map begun_circuit (each_brought old new cs)) c idle ≡ begun_circuit (brought row next (get_or cs c unused))
brought_at [] new cs c row next e at there = absurd (cc)
brought_at (r ∷ old) [] cs c row next e at there = absurd (cc)
brought_at (r ∷ old) (s ∷ new) [] c row next e at there = absurd (omega (arith, e))
brought_at (r ∷ old) (s ∷ new) (q ∷ cs) zero row next e at there = let same : r ≡ row = cc in let too : s ≡ next = cc in cc
brought_at (r ∷ old) (s ∷ new) (q ∷ cs) (suc c) row next e at there = brought_at old new cs c row next (omega (arith, e)) at there

begun_at : (old : List Circuit) (cs : List CircuitNeed) (c : ℕ) (row : Circuit) → length cs ≡ length old → slice_get old c ≡ Some row
    → get_or (map begun_circuit cs) c idle ≡ begun_circuit (get_or cs c unused)
begun_at [] cs c row e at = absurd (cc)
begun_at (r ∷ old) [] c row e at = absurd (omega (arith, e))
begun_at (r ∷ old) (q ∷ cs) zero row e at = refl
begun_at (r ∷ old) (q ∷ cs) (suc c) row e at = begun_at old cs c row (omega (arith, e)) at

pub drawn-same : (new old : Directory) (n : Need) (c : ℕ) (row next : Circuit) → slice_get old.circuits c ≡ Some row → slice_get new.circuits c ≡ Some next
    → next.digits ≡ row.digits → is_sound old n ≡ true → drawn (on_circuit (goes_over new old n) c) ≡ drawn (on_circuit (begun n) c)
drawn-same new old n c row next at there digits h =
    let p = sound-parts old n h in
    let q : CircuitNeed = get_or n.circuits c unused in
    ap drawn (brought_at old.circuits new.circuits n.circuits c row next p.same at there)
    ∙ ap (λ (b : Bool). drawn (begun_circuit (record q { kept = cond b q.kept []; owed = [] }))) (eq-eqb next.digits row.digits digits)
    ∙ sym (ap drawn (begun_at old.circuits n.circuits c row p.same at))

pub drawn-other : (new old : Directory) (n : Need) (c : ℕ) (row next : Circuit) → slice_get old.circuits c ≡ Some row → slice_get new.circuits c ≡ Some next
    → (next.digits ≡ row.digits → ⊥) → is_sound old n ≡ true → drawn (on_circuit (goes_over new old n) c) ≡ []
drawn-other new old n c row next at there digits h =
    let p = sound-parts old n h in
    let q : CircuitNeed = get_or n.circuits c unused in
    ap drawn (brought_at old.circuits new.circuits n.circuits c row next p.same at there)
    ∙ ap (λ (b : Bool). drawn (begun_circuit (record q { kept = cond b q.kept []; owed = [] }))) (ne_eqb next.digits row.digits digits)

none_owed : (old new : List Circuit) (cs : List CircuitNeed) (c : ℕ) → (get_or (map begun_circuit (each_brought old new cs)) c idle).owed ≡ []
none_owed old [] cs c = refl
none_owed [] (next ∷ new) cs zero = refl
none_owed [] (next ∷ new) cs (suc c) = none_owed [] new [] c
none_owed (row ∷ old) (next ∷ new) [] zero = refl
none_owed (row ∷ old) (next ∷ new) [] (suc c) = none_owed old new [] c
none_owed (row ∷ old) (next ∷ new) (q ∷ cs) zero = refl
none_owed (row ∷ old) (next ∷ new) (q ∷ cs) (suc c) = none_owed old new cs c

pub owed-over : (new old : Directory) (n : Need) (c : ℕ) → (on_circuit (goes_over new old n) c).owed ≡ []
owed-over new old n c = none_owed old.circuits new.circuits n.circuits c
