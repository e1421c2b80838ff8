-- Where a take gives nothing, and what takes on other circuits leave of that.
use Rattle.gts_circuits.proofs.Cited.{◌≡◌, ◌≢◌, Bool, ℕ, suc, List, [], ◌∷◌, ◌++◌, refl, ap, ◌∙◌, get_or-set_other, AreTakes, Beginning, Choice, CircuitState, Directory, Doubt, Draw, Draws, Entry, Event, GivesNothing, Idle, IsTake, Nothing, Nothing_waits, Outcome, Repeats, Resend, Restarted, State, TableId, Taken, TookLast, Unsaid, after, after_all, after_entry, after_take, choice, choice_of, draws, entries, idle, next, on_circuit, outcome, seen_at, state_at, waiting, with_circuit, with_drawn, with_repeated, begun, after_all-append, nothing_left, common_steps, arith}
use Rattle.gts_event.specs.declared.event.Entry.TheVariants.{Done}
use Rattle.gts_circuits.proofs.FlatLemmas.{entries-append}

abbrev leads_to : Choice → Outcome
leads_to x = elim x [ Repeats index ↦ Resend index | Draws index position ↦ Draw index | Nothing_waits ↦ Nothing ]

nothing_waits : (x : Choice) → leads_to x ≡ Nothing → x ≡ Nothing_waits
nothing_waits (Repeats index) e = absurd (let n : Resend index ≡ Nothing = e in cc n)
nothing_waits (Draws index position) e = absurd (let n : Draw index ≡ Nothing = e in cc n)
nothing_waits Nothing_waits e = refl

no_choice : (d : Directory) (s : State) (c : ℕ) → outcome d s (Taken c) ≡ Nothing → choice d s c ≡ Nothing_waits
no_choice d s c e = nothing_waits (choice d s c) e

-- ---- after a take that gave nothing, a take would give nothing

still_nothing : (d : Directory) (s : State) (c : ℕ) → outcome d s (Taken c) ≡ Nothing → outcome d (after d s (Taken c)) (Taken c) ≡ Nothing
still_nothing d s c e = grind (arith, common_steps, no_choice)

pub took_nothing : (b : Beginning) (hall : TableId) (name turns : ℕ) (full : Bool) (c : ℕ) (history : List (ℕ × Entry))
    → TookLast c (seen_at b hall name turns full history) Nothing → GivesNothing b c history
took_nothing b hall name turns full c history t = grind (arith, common_steps, entries-append, after_all-append, still_nothing)

-- ---- takes on another circuit

other_circuit : (s : State) (c k : ℕ) (q : CircuitState) → k ≢ c → on_circuit (with_circuit s c q) k ≡ on_circuit s k
other_circuit s c k q differ = get_or-set_other s.circuits c k q idle differ

other_choice : (d : Directory) (s : State) (c k : ℕ) → k ≢ c → (x : Choice) → choice d (after_take s c x) k ≡ choice d s k
other_choice d s c k differ (Repeats index) =
    let q : CircuitState = with_repeated (on_circuit s c) in
    ap (λ (r : CircuitState). choice_of r.owed (next d s r) (draws r)) (other_circuit s c k q differ)
other_choice d s c k differ (Draws index position) =
    let q : CircuitState = with_drawn position (on_circuit s c) in
    ap (λ (r : CircuitState). choice_of r.owed (next d s r) (draws r)) (other_circuit s c k q differ)
other_choice d s c k differ Nothing_waits = refl

one_other : (d : Directory) (s : State) (c k : ℕ) (e : Entry) → k ≢ c → IsTake c e → choice d (after_entry d s e) k ≡ choice d s k
one_other d s c k (Done event) differ is = ap (λ (x : Event). choice d (after d s x) k) is ∙ other_choice d s c k differ (choice d s c)
one_other d s c k (Unsaid event) differ is = ap (λ (x : Event). choice d (after d s x) k) is ∙ other_choice d s c k differ (choice d s c)
one_other d s c k (Idle event fault) differ is = refl
one_other d s c k (Doubt events) differ is = refl
one_other d s c k Restarted differ is = absurd is

all_other : (d : Directory) (s : State) (c k : ℕ) (added : List (ℕ × Entry)) → k ≢ c → AreTakes c added → choice d (after_all d s (entries added)) k ≡ choice d s k
all_other d s c k [] differ takes = refl
all_other d s c k (x ∷ xs) differ takes =
    all_other d (after_entry d s x.1) c k xs differ (λ j y at. takes (suc j) y at) ∙ one_other d s c k x.1 differ (takes 0 x refl).1

pub gives_still : (b : Beginning) (c k : ℕ) (past added : List (ℕ × Entry)) → k ≢ c → AreTakes c added → GivesNothing b k past → GivesNothing b k (past ++ added)
gives_still b c k past added differ takes nothing =
    let d : Directory = b.origin.directory in
    let s : State = begun b.origin.start in
    let here : after_all d s (entries (past ++ added)) ≡ after_all d (after_all d s (entries past)) (entries added) =
    ap (after_all d s) (entries-append past added) ∙ after_all-append d s (entries past) (entries added) in
    ap (λ (u : State). leads_to (choice d u k)) here
    ∙ ap leads_to (all_other d (after_all d s (entries past)) c k added differ takes) ∙ nothing

-- where a take would give nothing, nothing is owed and nothing waits
pub nothing_there : (b : Beginning) (c : ℕ) (history : List (ℕ × Entry)) → GivesNothing b c history
    → ((on_circuit (state_at b.origin (entries history)) c).owed ≡ []) × (waiting (on_circuit (state_at b.origin (entries history)) c) ≡ [])
nothing_there b c history nothing = grind (arith, common_steps, nothing_left, no_choice)
