-- Events that were done behind a history, said or not: what they come to and say is the same.
use Rattle.gts_engine.proofs.Cited.{◌≡◌, ℕ, ◌+◌, Bool, true, false, List, [], ◌∷◌, ◌++◌, map, None, refl, sym, ap, subst, ◌∙◌, append_assoc, append-nil, AreAnchors, Cause, Directory, Done, Doubt, Entry, Event, HasDoubt, HasFailed, HasUnsaid, History, IsCaused, Origin, Outside, SayMode, State, Unsaid, after, after_all, after_entry, all_done, begun, by_station, entry_bytes, history_of, keeps_one, outcome, record_bytes, said, spoken, spoken_of, state_at, state_behind, told, used_at, used_behind, said-append, after_all-append}
use Rattle.gts_engine.proofs.EntryLemmas.{state_more, used_more, anchors_more, caused_more, no_doubt, no_unsaid, by_station-append}

-- an event as it was done, said or not
abbrev pub mark : Bool → Event → Entry
mark true event = Done event
mark false event = Unsaid event

abbrev pub marked : Bool → List Event → List Entry
marked b events = map (mark b) events

-- one entry goes from the list behind to the one before
glue : (h : List Entry) (x : Entry) (ys : List Entry) → (h ++ x ∷ []) ++ ys ≡ h ++ x ∷ ys
glue h x ys = append_assoc h (x ∷ []) ys

-- ---- one event

after_mark : (b : Bool) (d : Directory) (s : State) (event : Event) → after_entry d s (mark b event) ≡ after d s event
after_mark true d s event = refl
after_mark false d s event = refl

spoken_mark : (b : Bool) (d : Directory) (s : State) (event : Event) → spoken_of d s (mark b event) ≡ spoken d s event
spoken_mark true d s event = refl
spoken_mark false d s event = refl

bytes_mark : (b : Bool) (d : Directory) (s : State) (event : Event) → entry_bytes d s (mark b event) ≡ record_bytes event (outcome d s event)
bytes_mark true d s event = refl
bytes_mark false d s event = refl

cause_mark : (b : Bool) (d : Directory) (h : History) (cs : List ℕ) (event : Event) → Cause d h cs (mark b event)
cause_mark true d h cs event = tt
cause_mark false d h cs event = tt

mark_sure : (b : Bool) (event : Event) (events : List Event) → mark b event ≡ Doubt events → ⊥
mark_sure true event events e = cc e
mark_sure false event events e = cc e

-- ---- several

pub state_marked : (b : Bool) (d : Directory) (s : State) (events : List Event) → after_all d s (marked b events) ≡ after_all d s (all_done events)
state_marked b d s [] = refl
state_marked b d s (event ∷ events) =
    ap (λ (t : State). after_all d t (marked b events)) (after_mark b d s event) ∙ state_marked b d (after d s event) events

pub said_marked : (b : Bool) (d : Directory) (s : State) (events : List Event) → said d s (marked b events) ≡ said d s (all_done events)
said_marked b d s [] = refl
said_marked b d s (event ∷ events) =
    ap (λ (l : Outside). l ++ said d (after_entry d s (mark b event)) (marked b events)) (spoken_mark b d s event)
    ∙ ap (λ (t : State). spoken d s event ++ said d t (marked b events)) (after_mark b d s event)
    ∙ ap (λ (l : Outside). spoken d s event ++ l) (said_marked b d (after d s event) events)

-- ---- behind a history

pub state_behind_marked : (b : Bool) (o : Origin) (h : List Entry) (events : List Event) → state_at o (h ++ marked b events) ≡ state_behind o h events
state_behind_marked b o h events =
    after_all-append o.directory (begun o.start) h (marked b events) ∙ state_marked b o.directory (state_at o h) events

pub told_marked : (b : Bool) (mode : SayMode) (o : Origin) (h : List Entry) (events : List Event)
    → told mode o (h ++ marked b events) ≡ told mode o h ++ by_station mode (said o.directory (state_at o h) (all_done events))
told_marked b mode o h events =
    ap (by_station mode) (said-append o.directory (begun o.start) h (marked b events))
    ∙ by_station-append mode (said o.directory (begun o.start) h) (said o.directory (state_at o h) (marked b events))
    ∙ ap (λ (l : Outside). told mode o h ++ by_station mode l) (said_marked b o.directory (state_at o h) events)

pub anchors_marked : (b : Bool) (o : Origin) (h : List Entry) (events : List Event) → AreAnchors o h → AreAnchors o (h ++ marked b events)
anchors_marked b o h [] anchors = subst (AreAnchors o) (sym (append-nil h)) anchors
anchors_marked b o h (event ∷ events) anchors =
    subst (AreAnchors o) (glue h (mark b event) (marked b events)) (anchors_marked b o (h ++ mark b event ∷ []) events (anchors_more o h (mark b event) anchors))

pub caused_marked : (b : Bool) (o : Origin) (h : List Entry) (events : List Event) → AreAnchors o h → IsCaused o.directory (history_of o h) o.compactions
    → IsCaused o.directory (history_of o (h ++ marked b events)) o.compactions
caused_marked b o h [] anchors caused =
    subst (λ (g : List Entry). IsCaused o.directory (history_of o g) o.compactions) (sym (append-nil h)) caused
caused_marked b o h (event ∷ events) anchors caused =
    subst (λ (g : List Entry). IsCaused o.directory (history_of o g) o.compactions) (glue h (mark b event) (marked b events))
    (caused_marked b o (h ++ mark b event ∷ []) events (anchors_more o h (mark b event) anchors)
    (caused_more o h (mark b event) anchors caused (cause_mark b o.directory (history_of o h) o.compactions event)))

pub used_marked : (b : Bool) (o : Origin) (h : List Entry) (events : List Event) → keeps_one o.directory ≡ true → AreAnchors o h
    → used_at o (h ++ marked b events) ≡ used_behind o.directory (state_at o h) (used_at o h) events
used_marked b o h [] keeps anchors = ap (used_at o) (append-nil h)
used_marked b o h (event ∷ events) keeps anchors =
    let d : Directory = o.directory in
    let x : Entry = mark b event in
    let g : List Entry = h ++ x ∷ [] in
    ap (used_at o) (sym (glue h x (marked b events))) ∙ used_marked b o g events keeps (anchors_more o h x anchors)
    ∙ ap (λ (s : State). used_behind d s (used_at o g) events) (state_more o h x ∙ after_mark b d (state_at o h) event)
    ∙ ap (λ (n : ℕ). used_behind d (after d (state_at o h) event) n events)
    (used_more o h x keeps anchors ∙ ap (λ (n : ℕ). used_at o h + n) (bytes_mark b d (state_at o h) event))

pub no_doubt_marked : (b : Bool) (h : List Entry) (events : List Event) → (HasDoubt h → ⊥) → HasDoubt (h ++ marked b events) → ⊥
no_doubt_marked b h [] none = subst (λ (g : List Entry). HasDoubt g → ⊥) (sym (append-nil h)) none
no_doubt_marked b h (event ∷ events) none =
    subst (λ (g : List Entry). HasDoubt g → ⊥) (glue h (mark b event) (marked b events))
    (no_doubt_marked b (h ++ mark b event ∷ []) events (no_doubt h (mark b event) none (mark_sure b event)))

pub no_unsaid_done : (h : List Entry) (events : List Event) → (HasUnsaid h → ⊥) → HasUnsaid (h ++ all_done events) → ⊥
no_unsaid_done h [] none = subst (λ (g : List Entry). HasUnsaid g → ⊥) (sym (append-nil h)) none
no_unsaid_done h (event ∷ events) none =
    subst (λ (g : List Entry). HasUnsaid g → ⊥) (glue h (Done event) (all_done events))
    (no_unsaid_done (h ++ Done event ∷ []) events (no_unsaid h (Done event) none (λ other e. cc e)))

-- an engine that goes on goes on with what was done
pub still_going : (h : List Entry) (events : List Event) → HasFailed None h → HasFailed None (h ++ all_done events)
still_going h events none = (no_doubt_marked true h events none.0, no_unsaid_done h events none.1)
