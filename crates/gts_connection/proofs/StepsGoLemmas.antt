-- The entries and the connections of steps that go on.
use Rattle.gts_connection.proofs.Cited.{◌≡◌, ℕ, ◌+◌, ◌≤◌, List, [], ◌∷◌, ◌++◌, length, refl, sym, ap, ◌∙◌, arith, AllByRecursion, Compact, Connections, Directory, Drain, Entry, Feed, Reopen, Restart, State, Step, Take, after_all, after_step, compactions, compactions_from, connections_after, count_at, entries, entries_from, entries_of_step, no_bytes, append_assoc, length-append, length-map, after_all-append}
use Rattle.gts_connection.proofs.CutLemmas.{length-after}

entries_on : (d : Directory) (s : State) (bs : Connections) (steps more : List Step)
    → entries_from d s bs (steps ++ more) ≡ entries_from d s bs steps ++ entries_from d (after_all d s (entries_from d s bs steps)) (connections_after d bs steps) more
entries_on d s bs [] more = refl
entries_on d s bs (step ∷ steps) more =
    let added : List Entry = entries_of_step s bs step in
    let t : State = after_all d s added in
    let cs : Connections = after_step d bs step in
    let rest : List Entry = entries_from d t cs steps in
    let then_on : State → List Entry = λ u. entries_from d u (connections_after d cs steps) more in
    ap (λ (xs : List Entry). added ++ xs) (entries_on d t cs steps more) ∙ sym (append_assoc added rest (then_on (after_all d t rest)))
    ∙ ap (λ (u : State). added ++ rest ++ then_on u) (sym (after_all-append d s added rest))

pub entries_go_on : (d : Directory) (s : State) (steps more : List Step)
    → entries d s (steps ++ more) ≡ entries d s steps ++ entries_from d (after_all d s (entries d s steps)) (connections_after d (no_bytes d) steps) more
entries_go_on d s steps more = entries_on d s (no_bytes d) steps more

connections_on : (d : Directory) (bs : Connections) (steps more : List Step) → connections_after d bs (steps ++ more) ≡ connections_after d (connections_after d bs steps) more
connections_on d bs [] more = refl
connections_on d bs (step ∷ steps) more = connections_on d (after_step d bs step) steps more

pub connections_go_on : (d : Directory) (steps more : List Step)
    → connections_after d (no_bytes d) (steps ++ more) ≡ connections_after d (connections_after d (no_bytes d) steps) more
connections_go_on d steps more = connections_on d (no_bytes d) steps more

each_from : (d : Directory) (bs : Connections) (steps : List Step) → length bs ≡ length d.circuits → length (connections_after d bs steps) ≡ length d.circuits
each_from d bs [] len = len
each_from d bs (step ∷ steps) len = each_from d (after_step d bs step) steps (length-after d bs step len)

pub each_connection : (d : Directory) (steps : List Step) → length (connections_after d (no_bytes d) steps) ≡ length d.circuits
each_connection d steps = each_from d (no_bytes d) steps (length-map d.circuits (λ _. []))

-- ---- compactions

compactions_on : (d : Directory) (s : State) (bs : Connections) (n : ℕ) (steps more : List Step)
    → compactions_from d s bs n (steps ++ more) ≡ compactions_from d s bs n steps
    ++ compactions_from d (after_all d s (entries_from d s bs steps)) (connections_after d bs steps) (n + length (entries_from d s bs steps)) more
compactions_on d s bs n [] more = ap (λ (k : ℕ). compactions_from d s bs k more) (let e : n ≡ n + 0 = omega arith in e)
compactions_on d s bs n (step ∷ steps) more =
    let added : List Entry = entries_of_step s bs step in
    let t : State = after_all d s added in
    let cs : Connections = after_step d bs step in
    let rest : List Entry = entries_from d t cs steps in
    let first : List ℕ = count_at n step in
    let from : List ℕ = compactions_from d t cs (n + length added) steps in
    let then_on : State → ℕ → List ℕ = λ u k. compactions_from d u (connections_after d cs steps) k more in
    let counted : n + length added + length rest ≡ n + length (added ++ rest) = omega (arith, length-append added rest) in
    ap (λ (ks : List ℕ). first ++ ks) (compactions_on d t cs (n + length added) steps more) ∙ sym (append_assoc first from (then_on (after_all d t rest) (n + length added + length rest)))
    ∙ ap (λ (u : State). (first ++ from) ++ then_on u (n + length added + length rest)) (sym (after_all-append d s added rest))
    ∙ ap (λ (k : ℕ). (first ++ from) ++ then_on (after_all d s (added ++ rest)) k) counted

pub compactions_go_on : (d : Directory) (s : State) (n : ℕ) (steps more : List Step)
    → compactions d s n (steps ++ more) ≡ compactions d s n steps
    ++ compactions_from d (after_all d s (entries d s steps)) (connections_after d (no_bytes d) steps) (n + length (entries d s steps)) more
compactions_go_on d s n steps more = compactions_on d s (no_bytes d) n steps more

abbrev Between : (n all : ℕ) → List ℕ → Type 0
Between n all ks = AllByRecursion (λ k. (n ≤ k) × (k ≤ n + all)) ks

wider : (n all m more : ℕ) (ks : List ℕ) → m ≤ n → n + all ≤ m + more → Between n all ks → Between m more ks
wider n all m more [] low high each = tt
wider n all m more (k ∷ ks) low high each = ((omega (arith, low, each.0.0), omega (arith, high, each.0.1)), wider n all m more ks low high each.1)

here_between : (n all : ℕ) (step : Step) (ks : List ℕ) → Between n all ks → Between n all (count_at n step ++ ks)
here_between n all (Feed c bytes) ks each = each
here_between n all (Take c) ks each = each
here_between n all (Reopen c) ks each = each
here_between n all (Drain c) ks each = each
here_between n all Restart ks each = each
here_between n all Compact ks each = ((omega arith, omega arith), each)

pub compactions_between : (d : Directory) (s : State) (bs : Connections) (n : ℕ) (steps : List Step)
    → Between n (length (entries_from d s bs steps)) (compactions_from d s bs n steps)
compactions_between d s bs n [] = tt
compactions_between d s bs n (step ∷ steps) =
    let added : List Entry = entries_of_step s bs step in
    let t : State = after_all d s added in
    let cs : Connections = after_step d bs step in
    let rest : List Entry = entries_from d t cs steps in
    here_between n (length (added ++ rest)) step (compactions_from d t cs (n + length added) steps)
    (wider (n + length added) (length rest) n (length (added ++ rest)) (compactions_from d t cs (n + length added) steps)
    (omega arith) (omega (arith, length-append added rest)) (compactions_between d t cs (n + length added) steps))
