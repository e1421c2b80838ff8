-- One message or loss more, behind what a switch stands for.
use Rattle.gts_calls.proofs.Cited.{◌≡◌, ℕ, ◌≤◌, ◌⊎◌, inl, inr, List, [], ◌∷◌, ◌++◌, length, Result, Ok, Err, refl, sym, subst, ◌∙◌, arith, append-nil, AfterCall, AfterHearing, BreaksLast, BreaksSoon, DiskFault, Done, Doubt, Entry, Event, FrameField, Full, GoesFed, Idle, IsAnswerCause, IsAnswered, IsCause, IsCutShort, IsHeard, IsInDoubt, Kind, NoMemory, Outcome, SayFault, Spent, Standing, Stands, Stopped, SwitchFault, Unsaid, all_done, all_unsaid, end_heard, end_lost, outcome_at, settled}
use Rattle.gts_event.specs.declared.event.Event.TheVariants as event
use Rattle.gts_calls.proofs.GoingLemmas.{within_all, cause_at, doubt_soon, few_one, one_more, short_soon}

module _ {O W : Type 0} (meanings : Standing O W) where
  pub as_hearing : (o : O) (entries : List Entry) (events : List Event) (e : Event) (result : Result Outcome SwitchFault) (new : W)
      → AfterCall meanings o entries events e result new → AfterHearing meanings o entries events e result new
  as_hearing o entries events e (Ok answer) new a = a
  as_hearing o entries events e (Err DiskFault) new a = inl a
  as_hearing o entries events e _ new a = a

  -- what is answered as any call is heard
  pub as_heard : (e : Event) (result : Result Outcome SwitchFault) (old new : W) → IsAnswered meanings e result old new → IsHeard meanings e result old new
  as_heard e result old new t = record {
    directory = t.directory;
    adds = λ o entries events g. as_hearing o entries events e result new (t.adds o entries events g);
    outcome = t.outcome;
    caused = t.caused;
  }

  -- how one event breaks off
  abbrev OneBreaks : O → ℕ → List Entry → Event → SwitchFault → W → Type 0
  OneBreaks o first h e DiskFault new = BreaksSoon meanings o first h (e ∷ []) (λ es. Doubt es ∷ []) new
  OneBreaks o first h e SayFault new = BreaksSoon meanings o first h (e ∷ []) all_unsaid new
  OneBreaks o first h e Spent new = ⊥
  OneBreaks o first h e other new = BreaksLast meanings o h (e ∷ []) e other new

  module _ (e : Event) (result : Result Outcome SwitchFault) (old new : W) (heard : IsHeard meanings e result old new) (o : O) (first : ℕ) (h : List Entry) (s : Stands meanings o first h old) where
    after : AfterHearing meanings o s.front s.events e result new
    after = heard.adds o s.front s.events s.gathers

    abbrev all : List Entry
    all = s.front ++ all_done s.events

    done : (answer : Outcome) → result ≡ Ok answer → Stands meanings o first (h ++ all_done (e ∷ [])) new
    done answer is = one_more meanings o first h e old new s (subst (λ (r : Result Outcome SwitchFault). AfterHearing meanings o s.front s.events e r new) is after)

    idle : (f : SwitchFault) → settled meanings o (all ++ Idle e f ∷ []) new → IsCause (meanings.is_full o all e) all (outcome_at meanings old o all e) f → BreaksLast meanings o h (e ∷ []) e f new
    idle f left cause =
        let same : all ≡ h ++ [] = sym s.is ∙ sym (append-nil h) in
        let P : List Entry → Type 0 = λ x. IsCause (meanings.is_full o x e) x (outcome_at meanings new o x e) f in
        record {
          front = [];
          is = refl;
          stands = subst (λ (x : List Entry). settled meanings o (x ++ Idle e f ∷ []) new) same left;
          cause = subst P same (cause_at meanings o all e f old new heard.directory cause);
        }

    -- the event is in what became entries together, or alone behind it
    none_behind : length {A = Entry} [] ≤ 1
    none_behind = omega arith

    one_behind : length (Done e ∷ []) ≤ 1
    one_behind = omega arith

    alone : (became : List Event → List Entry) → settled meanings o (all ++ became (e ∷ [])) new → BreaksSoon meanings o first h (e ∷ []) became new
    alone became left = (
      record {
        front = h;
        event = e;
        events = [];
        behind = [];
        parts = sym (append-nil (h ++ Done e ∷ []));
        within = within_all meanings o first h old s;
        few = few_one e;
        stands = subst (λ (x : List Entry). settled meanings o (x ++ became (e ∷ [])) new) (sym s.is) left;
      },
      none_behind,
    )

    doubt : IsInDoubt meanings o s.front s.events new ⊎ settled meanings o (all ++ Doubt (e ∷ []) ∷ []) new → BreaksSoon meanings o first h (e ∷ []) (λ es. Doubt es ∷ []) new
    doubt (inl d) = doubt_soon meanings o first h h (Done e ∷ []) (e ∷ []) old new s refl one_behind d
    doubt (inr left) = alone (λ es. Doubt es ∷ []) left

    said : IsCutShort meanings o s.front s.events new ⊎ settled meanings o (all ++ Unsaid e ∷ []) new → BreaksSoon meanings o first h (e ∷ []) all_unsaid new
    said (inl cut) = short_soon meanings o first h h (Done e ∷ []) (e ∷ []) old new s refl one_behind cut
    said (inr last) = alone all_unsaid last

    breaks : (f : SwitchFault) → result ≡ Err f → OneBreaks o first h e f new
    breaks f is = go f (subst (λ (r : Result Outcome SwitchFault). AfterHearing meanings o s.front s.events e r new) is after) (heard.caused o s.front s.events s.gathers f is)
      where
        go : (f : SwitchFault) → AfterHearing meanings o s.front s.events e (Err f) new → IsAnswerCause (meanings.is_full o all e) all (outcome_at meanings old o all e) f → OneBreaks o first h e f new
        go DiskFault a cause = doubt a
        go SayFault a cause = said a
        go (Full used need limit) a cause = idle (Full used need limit) a cause
        go (Stopped by) a cause = idle (Stopped by) a cause
        go Spent a cause = a
        go NoMemory a cause = idle NoMemory a cause

  -- a message was heard
  pub heard_goes : (c : ℕ) (kind : Kind) (message : List ℕ) (result : Result Outcome SwitchFault) (old new : W) → IsHeard meanings (event.Heard c kind message) result old new
      → (o : O) (first : ℕ) (h : List Entry) → Stands meanings o first h old → GoesFed meanings o first h c (event.Heard c kind message ∷ []) message (end_heard kind result) new
  heard_goes c kind message result old new heard o first h s = go result refl
    where
      e : Event
      e = event.Heard c kind message

      broke : (f : SwitchFault) → result ≡ Err f → OneBreaks o first h e f new
      broke f is = breaks e result old new heard o first h s f is

      go : (r : Result Outcome SwitchFault) → result ≡ r → GoesFed meanings o first h c (e ∷ []) message (end_heard kind r) new
      go (Ok answer) is = done e result old new heard o first h s answer is
      go (Err DiskFault) is = broke DiskFault is
      go (Err SayFault) is = broke SayFault is
      go (Err (Full used need limit)) is = (broke (Full used need limit) is, tt)
      go (Err (Stopped by)) is = (e, broke (Stopped by) is)
      go (Err Spent) is = broke Spent is
      go (Err NoMemory) is = (broke NoMemory is, tt)

  -- a loss was entered
  pub lost_goes : (c : ℕ) (field : FrameField) (message : List ℕ) (result : Result Outcome SwitchFault) (old new : W) → IsAnswered meanings (event.Lost c field) result old new
      → (o : O) (first : ℕ) (h : List Entry) → Stands meanings o first h old → GoesFed meanings o first h c (event.Lost c field ∷ []) message (end_lost field result) new
  lost_goes c field message result old new answered o first h s = go result refl
    where
      e : Event
      e = event.Lost c field

      heard : IsHeard meanings e result old new
      heard = as_heard e result old new answered

      broke : (f : SwitchFault) → result ≡ Err f → OneBreaks o first h e f new
      broke f is = breaks e result old new heard o first h s f is

      go : (r : Result Outcome SwitchFault) → result ≡ r → GoesFed meanings o first h c (e ∷ []) message (end_lost field r) new
      go (Ok answer) is = (done e result old new heard o first h s answer is, record { front = []; is = refl })
      go (Err DiskFault) is = broke DiskFault is
      go (Err SayFault) is = broke SayFault is
      go (Err (Full used need limit)) is = (field, broke (Full used need limit) is)
      go (Err (Stopped by)) is = (e, broke (Stopped by) is)
      go (Err Spent) is = broke Spent is
      go (Err NoMemory) is = (field, broke NoMemory is)
