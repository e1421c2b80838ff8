-- Several messages of a feed, one behind another.
use Rattle.gts_calls.proofs.Cited.{◌≡◌, ℕ, List, [], ◌∷◌, ◌++◌, sym, ap, subst, ◌∙◌, append-nil, append_assoc, All, BreaksFed, BreaksIdle, BreaksLast, BreaksOff, BreaksSoon, DiskFault, Doubt, Entry, Event, Fault, FeedEnd, Full, Goes, GoesFed, Idle, IsCause, NoMemory, SayFault, Spent, Standing, Stands, Stopped, SwitchFault, Wanting, all_done, all_unsaid, answer_of, outcome_at, settled, Lost}
use Rattle.gts_event.specs.declared.event.Event.TheVariants as event
use Rattle.gts_calls.proofs.GoingLemmas.{all_done-append, stands_same}

module _ {O W : Type 0} (meanings : Standing O W) where
  last_behind : (o : O) (h : List Entry) (xs ys : List Event) (last : Event) (f : SwitchFault) (now : W) → BreaksLast meanings o (h ++ all_done xs) ys last f now → BreaksLast meanings o h (xs ++ ys) last f now
  last_behind o h xs ys last f now b =
      let same : (h ++ all_done xs) ++ all_done b.front ≡ h ++ all_done (xs ++ b.front) =
      append_assoc h (all_done xs) (all_done b.front) ∙ ap (λ (x : List Entry). h ++ x) (sym (all_done-append xs b.front)) in
      record {
        front = xs ++ b.front;
        is = ap (λ (x : List Event). xs ++ x) b.is ∙ sym (append_assoc xs b.front (last ∷ []));
        stands = subst (λ (x : List Entry). settled meanings o (x ++ Idle last f ∷ []) now) same b.stands;
        cause = subst (λ (x : List Entry). IsCause (meanings.is_full o x last) x (outcome_at meanings now o x last) f) same b.cause;
      }

  together_behind : (o : O) (first : ℕ) (h : List Entry) (xs ys : List Event) (became : List Event → List Entry) (now : W) → BreaksSoon meanings o first (h ++ all_done xs) ys became now
      → BreaksSoon meanings o first h (xs ++ ys) became now
  together_behind o first h xs ys became now b =
      let t = b.0 in (
        record {
          front = t.front;
          event = t.event;
          events = t.events;
          behind = t.behind;
          parts = ap (λ (x : List Entry). h ++ x) (all_done-append xs ys) ∙ sym (append_assoc h (all_done xs) (all_done ys)) ∙ t.parts;
          within = t.within;
          few = t.few;
          stands = t.stands;
        },
        b.1,
      )

  breaks_behind : (o : O) (first : ℕ) (h : List Entry) (c : ℕ) (xs ys : List Event) (f : SwitchFault) (now : W) → BreaksFed meanings o first (h ++ all_done xs) c ys f now
      → BreaksFed meanings o first h c (xs ++ ys) f now
  breaks_behind o first h c xs ys DiskFault now b = together_behind o first h xs ys (λ es. Doubt es ∷ []) now b
  breaks_behind o first h c xs ys SayFault now b = together_behind o first h xs ys all_unsaid now b
  breaks_behind o first h c xs ys (Stopped by) now b = (b.0, last_behind o h xs ys b.0 (Stopped by) now b.1)
  breaks_behind o first h c xs ys Spent now b = b
  breaks_behind o first h c xs ys other now b = (b.0, last_behind o h xs ys (event.Lost c b.0) other now b.1)

  stands_behind : (o : O) (first : ℕ) (h : List Entry) (xs ys : List Event) (now : W) → Stands meanings o first ((h ++ all_done xs) ++ all_done ys) now → Stands meanings o first (h ++ all_done (xs ++ ys)) now
  stands_behind o first h xs ys now s =
      stands_same meanings o first ((h ++ all_done xs) ++ all_done ys) (h ++ all_done (xs ++ ys)) now
      (append_assoc h (all_done xs) (all_done ys) ∙ ap (λ (x : List Entry). h ++ x) (sym (all_done-append xs ys))) s

  -- what comes behind events that were added
  pub fed_behind : (o : O) (first : ℕ) (h : List Entry) (c : ℕ) (xs ys : List Event) (message : List ℕ) (end : FeedEnd) (now : W) → GoesFed meanings o first (h ++ all_done xs) c ys message end now
      → GoesFed meanings o first h c (xs ++ ys) message end now
  fed_behind o first h c xs ys message All now g = stands_behind o first h xs ys now g
  fed_behind o first h c xs ys message (Lost field) now g =
      (stands_behind o first h xs ys now g.0, record { front = xs ++ g.1.front; is = ap (λ (x : List Event). xs ++ x) g.1.is ∙ sym (append_assoc xs g.1.front (event.Lost c field ∷ [])) })
  fed_behind o first h c xs ys message (Wanting kind fault) now g = (last_behind o h xs ys (event.Heard c kind message) fault now g.0, g.1)
  fed_behind o first h c xs ys message (Fault fault) now g = breaks_behind o first h c xs ys fault now g

  -- nothing was to be added
  pub fed_none : (o : O) (first : ℕ) (h : List Entry) (c : ℕ) (message : List ℕ) (now : W) → Stands meanings o first h now → GoesFed meanings o first h c [] message All now
  fed_none o first h c message now s = stands_same meanings o first h (h ++ all_done []) now (sym (append-nil h)) s

  -- ---- as for a run

  idle_of : (o : O) (h : List Entry) (events : List Event) (last : Event) (f : SwitchFault) (now : W) → BreaksLast meanings o h events last f now → BreaksIdle meanings (λ _. o) h (all_done events) f now
  idle_of o h events last f now b = record {
    front = all_done b.front;
    event = last;
    behind = [];
    parts = ap all_done b.is ∙ all_done-append b.front (last ∷ []);
    stands = b.stands;
    cause = b.cause;
  }

  breaks_of : (o : O) (first : ℕ) (h : List Entry) (c : ℕ) (events : List Event) (f : SwitchFault) (now : W) → BreaksFed meanings o first h c events f now → BreaksOff meanings (λ _. o) first h (all_done events) f now
  breaks_of o first h c events DiskFault now b = b.0
  breaks_of o first h c events SayFault now b = b.0
  breaks_of o first h c events (Stopped by) now b = idle_of o h events b.0 (Stopped by) now b.1
  breaks_of o first h c events Spent now b = absurd b
  breaks_of o first h c events other now b = idle_of o h events (event.Lost c b.0) other now b.1

  -- what became of a feed, where no more is asked than that
  pub goes_of : (o : O) (first : ℕ) (h : List Entry) (c : ℕ) (events : List Event) (message : List ℕ) (end : FeedEnd) (now : W) → GoesFed meanings o first h c events message end now
      → Goes meanings o first h (all_done events) (answer_of end) now
  goes_of o first h c events message All now g = g
  goes_of o first h c events message (Lost field) now g = g.0
  goes_of o first h c events message (Wanting kind (Full used need limit)) now g = idle_of o h events (event.Heard c kind message) (Full used need limit) now g.0
  goes_of o first h c events message (Wanting kind NoMemory) now g = idle_of o h events (event.Heard c kind message) NoMemory now g.0
  goes_of o first h c events message (Wanting kind DiskFault) now g = absurd g.1
  goes_of o first h c events message (Wanting kind SayFault) now g = absurd g.1
  goes_of o first h c events message (Wanting kind (Stopped by)) now g = absurd g.1
  goes_of o first h c events message (Wanting kind Spent) now g = absurd g.1
  goes_of o first h c events message (Fault fault) now g = breaks_of o first h c events fault now g
