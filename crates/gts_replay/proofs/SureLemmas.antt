-- The entries of a capture's steps were done, or are openings: none is in doubt, and none unsaid.
use Rattle.gts_replay.proofs.Cited.{◌≡◌, List, [], ◌∷◌, ◌++◌, drop, ap, subst, Connections, Directory, Disk, Done, Doubt, Drain, Entry, Event, Feed, IsCause, IsCompactCause, Outcome, Restart, Restarted, Say, State, Step, Stopped, StoppedBefore, SwitchFault, Take, Unsaid, after_all, after_step, all_done, entries_from, entries_of_step}

-- an entry was done, or is an opening
abbrev pub Sure : Entry → Type 0
Sure (Done event) = Unit {0}
Sure Restarted = Unit {0}
Sure _ = ⊥

abbrev pub AllSure : List Entry → Type 0
AllSure [] = Unit {0}
AllSure (e ∷ es) = Sure e × AllSure es

sure_append : (xs ys : List Entry) → AllSure xs → AllSure ys → AllSure (xs ++ ys)
sure_append [] ys h k = k
sure_append (x ∷ xs) ys h k = (h.0, sure_append xs ys h.1 k)

pub sure_front : (xs ys : List Entry) → AllSure (xs ++ ys) → AllSure xs
sure_front [] ys h = tt
sure_front (x ∷ xs) ys h = (h.0, sure_front xs ys h.1)

sure_done : (events : List Event) → AllSure (all_done events)
sure_done [] = tt
sure_done (e ∷ events) = (tt, sure_done events)

sure_step : (s : State) (bs : Connections) (step : Step) → AllSure (entries_of_step s bs step)
sure_step s bs (Feed c bytes) = sure_done _
sure_step s bs (Take c) = (tt, tt)
sure_step s bs (Drain c) = sure_done _
sure_step s bs Restart = (tt, tt)
sure_step s bs _ = tt

pub sure_from : (d : Directory) (s : State) (bs : Connections) (steps : List Step) → AllSure (entries_from d s bs steps)
sure_from d s bs [] = tt
sure_from d s bs (step ∷ steps) = sure_append (entries_of_step s bs step) _ (sure_step s bs step) (sure_from d (after_all d s (entries_of_step s bs step)) (after_step d bs step) steps)

-- an entry that isn't sure stood before
unsure_before : (bad : Entry) → (Sure bad → ⊥) → (h front a b : List Entry) → AllSure front → h ++ front ≡ a ++ bad ∷ b → (x : List Entry) × (y : List Entry) × (h ≡ x ++ bad ∷ y)
unsure_before bad none [] [] [] b sure e = absurd (cc)
unsure_before bad none [] [] (z ∷ a) b sure e = absurd (cc)
unsure_before bad none [] (w ∷ front) [] b sure e = absurd (let same : w ≡ bad = cc in none (subst Sure same sure.0))
unsure_before bad none [] (w ∷ front) (z ∷ a) b sure e = let more = unsure_before bad none [] front a b sure.1 (ap (drop 1) e) in absurd (nothing more.0 bad more.1 more.2)
  where
    nothing : (x : List Entry) (bad : Entry) (y : List Entry) → [] ≡ x ++ bad ∷ y → ⊥
    nothing [] bad y f = cc
    nothing (z ∷ x) bad y f = cc
unsure_before bad none (v ∷ h) front [] b sure e = let same : v ≡ bad = cc in ([], h, ap (λ (z : Entry). z ∷ h) same)
unsure_before bad none (v ∷ h) front (z ∷ a) b sure e =
    let more = unsure_before bad none h front a b sure (ap (drop 1) e) in (v ∷ more.0, more.1, ap (λ (zs : List Entry). v ∷ zs) more.2)

pub stopped_before : (IsFull : SwitchFault → Type 0) (h front : List Entry) (o : Outcome) (fault : SwitchFault) → AllSure front → IsCause IsFull (h ++ front) o fault → StoppedBefore h fault
stopped_before IsFull h front o (Stopped Disk) sure cause = let w = unsure_before (Doubt cause.1) (λ none. none) h front cause.0 cause.2 sure cause.3 in (w.0, cause.1, w.1, w.2)
stopped_before IsFull h front o (Stopped Say) sure cause = let w = unsure_before (Unsaid cause.1) (λ none. none) h front cause.0 cause.2 sure cause.3 in (w.0, cause.1, w.1, w.2)
stopped_before IsFull h front o fault sure cause = tt

pub uncompacted_before : (IsFull : SwitchFault → Type 0) (h front : List Entry) (fault : SwitchFault) → AllSure front → IsCompactCause IsFull (h ++ front) fault → StoppedBefore h fault
uncompacted_before IsFull h front (Stopped Disk) sure cause = let w = unsure_before (Doubt cause.1) (λ none. none) h front cause.0 cause.2 sure cause.3 in (w.0, cause.1, w.1, w.2)
uncompacted_before IsFull h front (Stopped Say) sure cause = let w = unsure_before (Unsaid cause.1) (λ none. none) h front cause.0 cause.2 sure cause.3 in (w.0, cause.1, w.1, w.2)
uncompacted_before IsFull h front fault sure cause = tt
