-- Captures that differ only in how feeds are cut have the same entries.
use Rattle.gts_connection.proofs.Cited.{◌≡◌, ℕ, ◌<◌, List, [], ◌∷◌, ◌++◌, length, get_or, refl, sym, ap, ◌∙◌, arith, eqb-true, append_assoc, map-append, set-set, get_or-set_same, length-set, length-map, AreSteps, Compact, Connections, Directory, Drain, Entry, Feed, Reopen, Restart, State, Step, Take, after_all, after_step, entries, entries_from, entries_of_step, join, joined, no_bytes, after_all-append, common_steps}
use Rattle.gts_connection.proofs.StreamLemmas.{added-twice}

-- one feed or two
cut_feed : (d : Directory) (s : State) (bs : Connections) (c : ℕ) (x y : List ℕ) (steps : List Step) → c < length bs
    → entries_from d s bs (Feed c (x ++ y) ∷ steps) ≡ entries_from d s bs (Feed c x ∷ Feed c y ∷ steps)
cut_feed d s bs c x y steps lt = grind (arith, common_steps, get_or-set_same, append_assoc, set-set, added-twice, map-append, after_all-append)

join_feeds : (d : Directory) (s : State) (bs : Connections) (c e : ℕ) (x y : List ℕ) (steps : List Step) → c < length bs
    → entries_from d s bs (join (Feed c x) (Feed e y ∷ steps)) ≡ entries_from d s bs (Feed c x ∷ Feed e y ∷ steps)
join_feeds d s bs c e x y steps lt = grind (arith, common_steps, cut_feed, eqb-true)

join_same : (d : Directory) (s : State) (bs : Connections) (step : Step) (steps : List Step) → length bs ≡ length d.circuits → AreSteps d (step ∷ [])
    → entries_from d s bs (join step steps) ≡ entries_from d s bs (step ∷ steps)
join_same d s bs (Feed c x) [] len h = refl
join_same d s bs (Feed c x) (Feed e y ∷ steps) len h = join_feeds d s bs c e x y steps (omega (arith, len, h.0.0))
join_same d s bs (Feed c x) (Take e ∷ steps) len h = refl
join_same d s bs (Feed c x) (Reopen e ∷ steps) len h = refl
join_same d s bs (Feed c x) (Drain e ∷ steps) len h = refl
join_same d s bs (Feed c x) (Restart ∷ steps) len h = refl
join_same d s bs (Feed c x) (Compact ∷ steps) len h = refl
join_same d s bs _ steps len h = refl

pub length-after : (d : Directory) (bs : Connections) (step : Step) → length bs ≡ length d.circuits → length (after_step d bs step) ≡ length d.circuits
length-after d bs (Feed c x) len = length-set bs c (get_or bs c [] ++ x) ∙ len
length-after d bs (Reopen c) len = length-set bs c [] ∙ len
length-after d bs Restart len = length-map d.circuits (λ _. [])
length-after d bs _ len = len

joined_from : (d : Directory) (s : State) (bs : Connections) (steps : List Step) → length bs ≡ length d.circuits → AreSteps d steps → entries_from d s bs (joined steps) ≡ entries_from d s bs steps
joined_from d s bs [] len h = refl
joined_from d s bs (step ∷ steps) len h =
    let added : List Entry = entries_of_step s bs step in
    join_same d s bs step (joined steps) len (h.0, tt)
    ∙ ap (λ (es : List Entry). added ++ es) (joined_from d (after_all d s added) (after_step d bs step) steps (length-after d bs step len) h.1)

pub joined_same : (d : Directory) (s : State) (steps : List Step) → AreSteps d steps → entries d s (joined steps) ≡ entries d s steps
joined_same d s steps h = joined_from d s (no_bytes d) steps (length-map d.circuits (λ _. [])) h

-- captures that are one but for how feeds are cut have the same entries
pub cuts_same : (d : Directory) (s : State) (steps others : List Step) → AreSteps d steps → AreSteps d others → joined steps ≡ joined others → entries d s steps ≡ entries d s others
cuts_same d s steps others h k e = sym (joined_same d s steps h) ∙ ap (entries d s) e ∙ joined_same d s others k
