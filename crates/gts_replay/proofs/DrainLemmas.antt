-- Takes until one gives nothing.
use Rattle.gts_replay.proofs.Cited.{◌≡◌, ℕ, zero, suc, ◌+◌, ◌^◌, ◌<◌, ◌≤◌, ◌-◌, ◌⊎◌, inl, inr, List, [], ◌∷◌, ◌++◌, length, get_or, replicate, Result, Ok, Err, refl, sym, ap, subst, ◌∙◌, arith, append_assoc, length-append, AllByRecursion, BreaksOff, Choice, CircuitState, Directory, Done, Draw, Draws, Entry, IsAnswered, IsStart, Nothing, Nothing_waits, Outcome, Repeats, Resend, RoutedOnce, Standing, Stands, StandsFor, State, SwitchFault, Taken, after, after_all, after_take, all_done, choice, draws, idle, left_to_give, most_owed, next, on_circuit, outcome, state_at, takes_of_drain, with_drawn, get_or-set_same, after_all-append, ordered-all, routed_once-all, owed_few-all, one_less, nothing_left, repeats_first, draws_index, common_steps}
use Rattle.gts_replay.proofs.GoingLemmas.{stands_same, one_done, answer_is, call_breaks, then_breaks, breaks_before}

-- so many takes on a circuit
abbrev pub takes : ℕ → ℕ → List Entry
takes c i = all_done (replicate i (Taken c))

takes-suc : (c i : ℕ) → takes c (i + 1) ≡ takes c i ++ Done (Taken c) ∷ []
takes-suc c zero = refl
takes-suc c (suc i) = let more : suc i + 1 ≡ suc (i + 1) = omega arith in ap (takes c) more ∙ ap (λ (es : List Entry). Done (Taken c) ∷ es) (takes-suc c i)

takes-split : (c i k : ℕ) → takes c (i + k) ≡ takes c i ++ takes c k
takes-split c zero k = ap (takes c) (let e : zero + k ≡ k = omega arith in e)
takes-split c (suc i) k = let e : suc i + k ≡ suc (i + k) = omega arith in ap (takes c) e ∙ ap (λ (es : List Entry). Done (Taken c) ∷ es) (takes-split c i k)

-- ---- states

start_on : (d : Directory) (s : State) (h : List Entry) → IsStart d s → IsStart d (after_all d s h)
start_on d s h start = record {
  keeps = start.keeps;
  ordered = ordered-all d s h start.keeps start.ordered;
  once = routed_once-all d s h start.keeps start.ordered start.once;
  few = owed_few-all d s h start.few;
}

once_on : (qs : List CircuitState) (c : ℕ) → AllByRecursion RoutedOnce qs → RoutedOnce (get_or qs c idle)
once_on [] c h = λ p. omega arith
once_on (q ∷ qs) zero h = h.0
once_on (q ∷ qs) (suc c) h = once_on qs c h.1

few_on : (qs : List CircuitState) (c : ℕ) → AllByRecursion (λ q. length q.owed ≤ most_owed) qs → length (get_or qs c idle).owed ≤ most_owed
few_on [] c h = omega arith
few_on (q ∷ qs) zero h = h.0
few_on (q ∷ qs) (suc c) h = few_on qs c h.1

-- ---- one take

abbrev outcome_of_choice : Choice → Outcome
outcome_of_choice ch = elim ch as (λ _. Outcome) [ Repeats index ↦ Resend index | Draws index position ↦ Draw index | Nothing_waits ↦ Nothing ]

-- the index of a draw fits
abbrev pub Few : Outcome → Type 0
Few o = (index : ℕ) → o ≡ Draw index → index < 2 ^ 64

one_taken : (d : Directory) (s : State) (c : ℕ) → c < length s.circuits → Few (outcome d s (Taken c)) → (choice d s c ≡ Nothing_waits → ⊥)
    → (1 + length (on_circuit (after d s (Taken c)) c).owed + draws (on_circuit s c) ≡ length (on_circuit s c).owed + draws (on_circuit (after d s (Taken c)) c))
    × ((draws (on_circuit (after d s (Taken c)) c) ≡ draws (on_circuit s c)) ⊎ (draws (on_circuit (after d s (Taken c)) c) ≤ 2 ^ 64))
one_taken d s c within few some = go (choice d s c) refl
  where
    q : CircuitState
    q = on_circuit s c

    Goal : State → Type 0
    Goal t = (1 + length (on_circuit t c).owed + draws q ≡ length q.owed + draws (on_circuit t c)) × ((draws (on_circuit t c) ≡ draws q) ⊎ (draws (on_circuit t c) ≤ 2 ^ 64))

    over : CircuitState → Type 0
    over r = (1 + length r.owed + draws q ≡ length q.owed + draws r) × ((draws r ≡ draws q) ⊎ (draws r ≤ 2 ^ 64))

    go : (ch : Choice) → choice d s c ≡ ch → Goal (after_take s c (choice d s c))
    go (Repeats i) e = grind (arith, common_steps, get_or-set_same, repeats_first)
    go (Draws i p) e =
        let at : on_circuit (after_take s c (choice d s c)) c ≡ with_drawn p q = ap (λ (ch : Choice). on_circuit (after_take s c ch) c) e ∙ get_or-set_same s.circuits c (with_drawn p q) idle within in
        let index : draws q ≡ i = draws_index q.owed (next d s q) (draws q) i p e in
        let small : i < 2 ^ 64 = few i (ap outcome_of_choice e) in
        subst over (sym at) (omega (arith, length-append q.taken (p ∷ [])), inr (omega (arith, length-append q.taken (p ∷ []), index, small)))
    go Nothing_waits e = absurd (some e)

nothing_chosen : (ch : Choice) → Nothing ≡ outcome_of_choice ch → ch ≡ Nothing_waits
nothing_chosen (Repeats i) e = absurd (cc)
nothing_chosen (Draws i p) e = absurd (cc)
nothing_chosen Nothing_waits e = refl

-- ---- takes, one after another

module _ {O W : Type 0} (meanings : Standing O W) (begun : W) (o : O) (first : ℕ) (h : List Entry) (c : ℕ) where
  abbrev pub circuit_at : List Entry → CircuitState
  circuit_at x = on_circuit (state_at meanings begun o x) c

  -- So many takes gave something. What is left to give is less by as many; and what is owed less and what was drawn are as many.
  pub record Drained (i : ℕ) (now : W) : Type 0 where
    pub stands : Stands meanings o first (h ++ takes c i) now
    pub left : left_to_give (circuit_at (h ++ takes c i)) + i ≡ left_to_give (circuit_at h)
    pub counted : i + length (circuit_at (h ++ takes c i)).owed + draws (circuit_at h) ≡ length (circuit_at h).owed + draws (circuit_at (h ++ takes c i))
    pub few : (draws (circuit_at (h ++ takes c i)) ≡ draws (circuit_at h)) ⊎ (draws (circuit_at (h ++ takes c i)) ≤ 2 ^ 64)

  module _ (now later : W) (i : ℕ) (result : Result Outcome SwitchFault) (same : meanings.directory now ≡ meanings.directory begun) (drained : Drained i now)
      (called : IsAnswered meanings (Taken c) result now later) where
    abbrev before : List Entry
    before = h ++ takes c i

    abbrev d : Directory
    d = meanings.directory begun

    abbrev s : State
    s = state_at meanings begun o before

    -- the answer of a take in the state behind these entries
    answered : (answer : Outcome) → result ≡ Ok answer → answer ≡ outcome d s (Taken c)
    answered answer is =
        answer_is meanings (Taken c) result answer now later called is o first before drained.stands ∙ ap (λ (e : Directory). outcome e (after_all e (meanings.begin o) before) (Taken c)) same

    -- the switch stands for one take more
    one_more : (answer : Outcome) → result ≡ Ok answer → Stands meanings o first (h ++ takes c (i + 1)) later
    one_more answer is =
        stands_same meanings o first (before ++ Done (Taken c) ∷ []) (h ++ takes c (i + 1)) later
        (append_assoc h (takes c i) (Done (Taken c) ∷ []) ∙ ap (λ (x : List Entry). h ++ x) (sym (takes-suc c i)))
        (one_done meanings (Taken c) result answer now later called is o first before drained.stands)

    pub drained_more : (answer : Outcome) → StandsFor meanings o first h begun → c < length (meanings.directory begun).circuits → result ≡ Ok answer → (answer ≡ Nothing → ⊥) → Few answer → Drained (i + 1) later
    drained_more answer start within is some few =
        let started : IsStart d s = start_on d (meanings.begin o) before start.start in
        let gives : choice d s c ≡ Nothing_waits → ⊥ = λ (e : choice d s c ≡ Nothing_waits). some (answered answer is ∙ ap outcome_of_choice e) in
        let all : h ++ takes c (i + 1) ≡ before ++ Done (Taken c) ∷ [] = ap (λ (x : List Entry). h ++ x) (takes-suc c i) ∙ sym (append_assoc h (takes c i) (Done (Taken c) ∷ [])) in
        let next_state : state_at meanings begun o (h ++ takes c (i + 1)) ≡ after d s (Taken c) =
        ap (λ (x : List Entry). state_at meanings begun o x) all ∙ after_all-append d (meanings.begin o) before (Done (Taken c) ∷ []) in
        let one = one_taken d s c (omega (arith, started.ordered.circuits, within)) (subst Few (answered answer is) few) gives in
        let less = one_less d s c (once_on s.circuits c started.once) gives in
        let q : State → CircuitState = λ t. on_circuit t c in
        let left : left_to_give (circuit_at (h ++ takes c (i + 1))) ≡ left_to_give (q (after d s (Taken c))) = ap (λ (t : State). left_to_give (q t)) next_state in
        let owed : length (circuit_at (h ++ takes c (i + 1))).owed ≡ length (q (after d s (Taken c))).owed = ap (λ (t : State). length (q t).owed) next_state in
        let drawn : draws (circuit_at (h ++ takes c (i + 1))) ≡ draws (q (after d s (Taken c))) = ap (λ (t : State). draws (q t)) next_state in
        record {
          stands = one_more answer is;
          left = omega (arith, left, less, drained.left);
          counted = omega (arith, owed, drawn, one.0, drained.counted);
          few = fits drawn one.1 drained.few;
        }
      where
        fits : {a b m n : ℕ} → a ≡ b → (b ≡ m) ⊎ (b ≤ 2 ^ 64) → (m ≡ n) ⊎ (m ≤ 2 ^ 64) → (a ≡ n) ⊎ (a ≤ 2 ^ 64)
        fits e (inl f) (inl g) = inl (e ∙ f ∙ g)
        fits e (inl f) (inr g) = inr (omega (arith, e, f, g))
        fits e (inr f) g = inr (omega (arith, e, f))

    -- the take that gives nothing is the last
    pub drained_all : result ≡ Ok Nothing → Stands meanings o first (h ++ all_done (takes_of_drain (state_at meanings begun o h) c)) later
    drained_all is =
        let none : choice d s c ≡ Nothing_waits = nothing_chosen (choice d s c) (answered Nothing is) in
        let both = nothing_left d s c none in
        let nothing : left_to_give (on_circuit s c) ≡ 0 = omega (arith, ap length both.0, ap length both.1) in
        let count : i + 1 ≡ left_to_give (circuit_at h) + 1 = omega (arith, nothing, drained.left) in
        subst (λ (k : ℕ). Stands meanings o first (h ++ takes c k) later) count (one_more Nothing is)

    -- a take was answered with a fault
    pub drained_breaks : (fault : SwitchFault) → result ≡ Err fault → BreaksOff meanings (λ _. o) first h (all_done (takes_of_drain (state_at meanings begun o h) c)) fault later
    drained_breaks fault is =
        let k : ℕ = left_to_give (on_circuit s c) in
        let count : left_to_give (circuit_at h) + 1 ≡ i + suc k = omega (arith, drained.left) in
        let parts : takes c (left_to_give (circuit_at h) + 1) ≡ takes c i ++ (Done (Taken c) ∷ [] ++ takes c k) = ap (takes c) count ∙ takes-split c i (suc k) in
        let one = call_breaks meanings (Taken c) result fault now later called is o first before drained.stands in
        subst (λ (x : List Entry). BreaksOff meanings (λ _. o) first h x fault later) (sym parts)
        (then_breaks meanings o first h (takes c i) (Done (Taken c) ∷ [] ++ takes c k) fault later (breaks_before meanings o first before (Done (Taken c) ∷ []) (takes c k) fault later one))

  -- no circuit has so much to give
  pub drained_few : (now : W) (i : ℕ) → StandsFor meanings o first h begun → Drained i now → i < 2 ^ 128 - 1
  drained_few now i start drained =
      let owed : length (circuit_at h).owed ≤ most_owed = few_on (state_at meanings begun o h).circuits c (start_on (meanings.directory begun) (meanings.begin o) h start.start).few in
      elim drained.few as (λ _. i < 2 ^ 128 - 1) [
        | inl same ↦ omega (arith, same, owed, drained.counted)
        | inr small ↦ omega (arith, small, owed, drained.counted)
      ]
