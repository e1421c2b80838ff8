-- A take that is gathered behind what was, with nothing settled before.
use Rattle.gts_engine.proofs.Cited.{◌≡◌, ℕ, suc, ◌+◌, ◌≤◌, true, false, List, [], ◌∷◌, ◌++◌, length, Option, Some, Ok, None, refl, sym, ap, subst, ◌∙◌, arith, length-append, IfNone, IfSome, Alone, AnswersIn, AreGathered, AtOnce, Behind, Caller, Directory, EngineParts, Entry, Event, Gathers, GathersOne, Holds, IsOneMore, Origin, Outcome, Outside, Record, SayMode, Shown, State, StationMeanings, Taken, TakesBehind, after, engine_of, gathered_after, joined, meanings_of, outcome as outcome_of, pieces, shown, state_at, state_behind}

pub length_pieces : (mode : SayMode) (d : Directory) (s : State) (events : List Event) → length (pieces mode d s events) ≡ length events
length_pieces mode d s [] = refl
length_pieces mode d s (e ∷ events) = ap suc (length_pieces mode d (after d s e) events)

-- while something is gathered there is an event of it
some_event : (e : Shown) (d : Directory) (s : State) (events : List Event) → AreGathered e d s events → e.gathered ≡ true → 1 ≤ length events
some_event e d s [] none is = absurd (let x : true ≡ false = sym is ∙ none in cc x)
some_event e d s (x ∷ events) some is = omega arith

-- what is gathered stays so with more
pub still_gathered : (rs : List Record) → gathered_after true rs ≡ true
still_gathered [] = refl
still_gathered (r ∷ rs) = refl

-- a silent piece more
pub joined_silent : (held : List Outside) → joined held ≡ [] → joined (held ++ [] ∷ []) ≡ []
joined_silent [] none = refl
joined_silent ([] ∷ held) none = joined_silent held none
joined_silent ((b ∷ bytes) ∷ held) none = absurd (cc none)

pub takes_behind : {P : Type 0} (station : StationMeanings P) (c : ℕ) (o : Outcome) (old new : EngineParts P) → old.stopped ≡ None
    → (engine_of old).gathered ≡ true → (engine_of new).held ≡ (engine_of old).held ++ [] ∷ [] → AnswersIn station Caller (Taken c) (Ok o) old new
    → TakesBehind station c o (engine_of old) (engine_of new)
takes_behind {P} station c o old new going gathered held a = record {
  directory = a.directory;
  gathers = λ origin entries events g. go origin entries events g (a.called origin entries events g);
  outcome = λ origin entries events g.
      let s : State = state_behind origin entries events in
      let H : Directory → Type 0 = λ d. Holds d old.core s → o ≡ outcome_of d s (Taken c) in
      subst H g.directory (a.outcome s) (g.core going);
}
  where
    event : Event
    event = Taken c

    go : (origin : Origin) (entries : List Entry) (events : List Event) → Gathers station.observed Caller origin entries events (shown station.calls (engine_of old))
        → GathersOne (meanings_of station Caller) origin entries events (Taken c) (engine_of new) → Gathers station.observed Caller origin entries (events ++ Taken c ∷ []) (shown station.calls (engine_of new))
    go origin entries events g one = by one.front one.more one.one one.gathers
      where
        many : 1 ≤ length events
        many = some_event (shown station.calls (engine_of old)) origin.directory (state_at origin entries) events g.gathered gathered

        long : length (engine_of new).held ≡ length events + 1
        long = ap length held ∙ length-append (engine_of old).held ([] ∷ []) ∙ ap (λ (n : ℕ). n + 1) (ap length g.held ∙ length_pieces Caller origin.directory (state_at origin entries) events)

        by : (front : List Entry) (more : List Event) → IsOneMore entries events (Taken c) front more → Gathers station.observed Caller origin front more (shown station.calls (engine_of new))
            → Gathers station.observed Caller origin entries (events ++ Taken c ∷ []) (shown station.calls (engine_of new))
        by front more (Behind is all) h =
            subst (λ (es : List Event). Gathers station.observed Caller origin entries es (shown station.calls (engine_of new))) all
            (subst (λ (l : List Entry). Gathers station.observed Caller origin l more (shown station.calls (engine_of new))) is h)
        by front more (Alone is all) h =
            absurd (let n : length (engine_of new).held ≡ 1 = ap length h.held ∙ length_pieces Caller origin.directory (state_at origin front) more ∙ ap length all in omega (arith, n, long, many))
        by front more (AtOnce is all) h =
            absurd (let n : length (engine_of new).held ≡ 0 = ap length h.held ∙ length_pieces Caller origin.directory (state_at origin front) more ∙ ap length all in omega (arith, n, long, many))

-- what was held is silent, and so is what is held, where a piece came or none
pub silent_behind : {T : Type 0} (r : Option T) (old new : List Outside) → IfNone r (new ≡ old) → IfSome r (λ x. new ≡ old ++ [] ∷ []) → joined old ≡ [] → joined new ≡ []
silent_behind None old new same more none = ap joined same ∙ none
silent_behind (Some x) old new same more none = ap joined more ∙ joined_silent old none

-- over the answers
pub both_some : {T : Type 0} (r : Option T) (A B C : T → Type 0) → ((x : T) → A x → B x → C x) → IfSome r A → IfSome r B → IfSome r C
both_some None A B C turns a b = tt
both_some (Some x) A B C turns a b = turns x a b

pub each_none : {T : Type 0} (r : Option T) (A B : Type 0) → (A → B) → IfNone r A → IfNone r B
each_none None A B turns a = turns a
each_none (Some x) A B turns a = tt
