-- Entries that are added to those for which a switch stands, one after another.
use Rattle.gts_calls.proofs.Cited.{◌≡◌, ℕ, ◌≤◌, ◌⊎◌, inl, inr, List, [], ◌∷◌, ◌++◌, length, Result, Ok, Err, refl, sym, ap, subst, ◌∙◌, arith, length-append, IsErrAnd, MatchResult, append-nil, append_assoc, map-append, err_from_is_err_and, AfterCall, AfterSettling, Alone, AtOnce, Behind, BreaksIdle, BreaksOff, BreaksSoon, BreaksTogether, Directory, DiskFault, Done, Doubt, Entry, Event, Full, GathersOne, Goes, Idle, IsAnswerCause, IsAnswered, IsCause, IsCutShort, IsInDoubt, IsOneMore, IsSettling, MOST_TOGETHER, NoMemory, Outcome, SayFault, Spent, Standing, Stands, Stopped, SwitchFault, Unsaid, after_all, all_done, all_unsaid, outcome, outcome_at, settled}

-- what was answered, by what `map_err` made of it
pub mapped_ok : {T E D : Type 0} (r : Result T E) (mapped : Result T D) (Q : E → D → Type 0) (x : T) → MatchResult r (λ y. mapped ≡ Ok y) (λ e. IsErrAnd mapped (Q e)) → mapped ≡ Ok x → r ≡ Ok x
mapped_ok {T} {E} {D} (Ok y) mapped Q x cases is = let e : Ok y ≡ Ok x = sym cases ∙ is in let same : y ≡ x = cc e in ap Ok same
mapped_ok {T} {E} {D} (Err e) mapped Q x cases is = absurd (subst (λ (m : Result T D). IsErrAnd m (Q e)) is cases)

pub mapped_err : {T E D : Type 0} (r : Result T E) (mapped : Result T D) (Q : E → D → Type 0) (f : D) → MatchResult r (λ y. mapped ≡ Ok y) (λ e. IsErrAnd mapped (Q e)) → mapped ≡ Err f
    → (e : E) × (r ≡ Err e) × Q e f
mapped_err {T} {E} {D} (Ok y) mapped Q f cases is = absurd (let e : Ok y ≡ Err f = sym cases ∙ is in cc e)
mapped_err {T} {E} {D} (Err e) mapped Q f cases is = (e, refl, subst (λ (m : Result T D). IsErrAnd m (Q e)) is cases)

-- one event is no more than may be gathered
pub few_one : (event : Event) → length (event ∷ []) ≤ MOST_TOGETHER
few_one event = omega arith

pub all_done-append : (xs ys : List Event) → all_done (xs ++ ys) ≡ all_done xs ++ all_done ys
all_done-append xs ys = map-append (λ (e : Event). Done e) xs ys

module _ {O W : Type 0} (meanings : Standing O W) where
  -- ---- what a switch stands for

  -- nothing is gathered
  pub stands_settled : (o : O) (first : ℕ) (h : List Entry) (now : W) → first ≤ length h → settled meanings o h now → Stands meanings o first h now
  stands_settled o first h now within s = record { front = h; events = []; is = sym (append-nil h); within = within; gathers = s }

  -- where it stands for entries of which none may be gathered, none is
  pub settled_all : (o : O) (h : List Entry) (now : W) → Stands meanings o (length h) h now → settled meanings o h now
  settled_all o h now s = go s.events s.is s.gathers
    where
      go : (events : List Event) → h ≡ s.front ++ all_done events → meanings.gathers o s.front events now → settled meanings o h now
      go [] is g = subst (λ (x : List Entry). settled meanings o x now) (sym (append-nil s.front) ∙ sym is) g
      go (e ∷ events) is g = absurd (omega (arith, s.within, ap length is, length-append s.front (all_done (e ∷ events))))

  pub within_all : (o : O) (first : ℕ) (h : List Entry) (now : W) → Stands meanings o first h now → first ≤ length h
  within_all o first h now s = omega (arith, s.within, ap length s.is, length-append s.front (all_done s.events))

  pub stands_same : (o : O) (first : ℕ) (h k : List Entry) (now : W) → h ≡ k → Stands meanings o first h now → Stands meanings o first k now
  stands_same o first h k now same s = subst (λ (x : List Entry). Stands meanings o first x now) same s

  -- ---- what was gathered is settled

  pub settles_all : (o : O) (first : ℕ) (h : List Entry) (old new : W) (u : Unit {0}) → Stands meanings o first h old → IsSettling meanings (Ok u) old new → settled meanings o h new
  settles_all o first h old new u s settling =
      subst (λ (x : List Entry). settled meanings o x new) (sym s.is) (settling.settles o s.front s.events s.gathers)

  -- the first entries stand, and events behind them became these together
  pub together : (o : O) (first : ℕ) (h more front back : List Entry) (events : List Event) (became : List Event → List Entry) (now : W) → h ++ more ≡ front ++ all_done events ++ back → first ≤ length front
      → (events ≡ [] → ⊥) → length events ≤ MOST_TOGETHER → settled meanings o (front ++ became events) now → BreaksTogether meanings (λ _. o) first h more became now
  together o first h more front back [] became now parts within some few s = absurd (some refl)
  together o first h more front back (event ∷ events) became now parts within some few s = record { front = front; event = event; events = events; behind = back; parts = parts; within = within; few = few; stands = s }

  -- the same of events, with one behind them at most
  together_soon : (o : O) (first : ℕ) (h front back : List Entry) (all events : List Event) (became : List Event → List Entry) (now : W) → h ++ all_done all ≡ front ++ all_done events ++ back → length back ≤ 1
      → first ≤ length front → (events ≡ [] → ⊥) → length events ≤ MOST_TOGETHER → settled meanings o (front ++ became events) now → BreaksSoon meanings o first h all became now
  together_soon o first h front back all [] became now parts soon within some few s = absurd (some refl)
  together_soon o first h front back all (event ∷ events) became now parts soon within some few s =
      (record { front = front; event = event; events = events; behind = back; parts = parts; within = within; few = few; stands = s }, soon)

  -- few events are gathered, and no more than these are the last of them
  few_gathered : (o : O) (first : ℕ) (h : List Entry) (now : W) (s : Stands meanings o first h now) → length s.events ≤ MOST_TOGETHER
  few_gathered o first h now s = meanings.few o s.front s.events now s.gathers

  few_last : (all before behind : List Event) → all ≡ before ++ behind → length all ≤ MOST_TOGETHER → length behind ≤ MOST_TOGETHER
  few_last all before behind is few = omega (arith, few, ap length is, length-append before behind)

  -- these gathered events are in doubt
  pub in_doubt : (o : O) (first : ℕ) (h more : List Entry) (old new : W) (s : Stands meanings o first h old) → IsInDoubt meanings o s.front s.events new → BreaksOff meanings (λ _. o) first h more DiskFault new
  in_doubt o first h more old new s doubt =
      together o first h more s.front more s.events (λ events. Doubt events ∷ []) new (ap (λ (x : List Entry). x ++ more) s.is) s.within doubt.some
      (few_gathered o first h old s) doubt.leaves

  -- saying failed at one of them
  pub cut_short : (o : O) (first : ℕ) (h more : List Entry) (old new : W) (s : Stands meanings o first h old) → IsCutShort meanings o s.front s.events new → BreaksOff meanings (λ _. o) first h more SayFault new
  cut_short o first h more old new s cut =
      let front : List Entry = s.front ++ all_done cut.before in
      let behind : List Event = cut.first ∷ cut.rest in
      let all : h ≡ front ++ all_done behind =
      s.is ∙ ap (λ (es : List Event). s.front ++ all_done es) cut.is ∙ ap (λ (es : List Entry). s.front ++ es) (all_done-append cut.before behind) ∙ sym (append_assoc s.front (all_done cut.before) (all_done behind)) in
      together o first h more front more behind all_unsaid new (ap (λ (x : List Entry). x ++ more) all) (omega (arith, s.within, length-append s.front (all_done cut.before))) (λ e. cc e)
      (few_last s.events cut.before behind cut.is (few_gathered o first h old s)) cut.leaves

  -- the same, of events that were to be added behind others
  pub doubt_soon : (o : O) (first : ℕ) (h k back : List Entry) (all : List Event) (old new : W) (s : Stands meanings o first k old) → h ++ all_done all ≡ k ++ back → length back ≤ 1
      → IsInDoubt meanings o s.front s.events new → BreaksSoon meanings o first h all (λ events. Doubt events ∷ []) new
  doubt_soon o first h k back all old new s parts soon doubt =
      together_soon o first h s.front back all s.events (λ events. Doubt events ∷ []) new (parts ∙ ap (λ (x : List Entry). x ++ back) s.is) soon s.within doubt.some (few_gathered o first k old s) doubt.leaves

  pub short_soon : (o : O) (first : ℕ) (h k back : List Entry) (all : List Event) (old new : W) (s : Stands meanings o first k old) → h ++ all_done all ≡ k ++ back → length back ≤ 1
      → IsCutShort meanings o s.front s.events new → BreaksSoon meanings o first h all all_unsaid new
  short_soon o first h k back all old new s parts soon cut =
      let front : List Entry = s.front ++ all_done cut.before in
      let behind : List Event = cut.first ∷ cut.rest in
      let whole : k ≡ front ++ all_done behind =
      s.is ∙ ap (λ (es : List Event). s.front ++ all_done es) cut.is ∙ ap (λ (es : List Entry). s.front ++ es) (all_done-append cut.before behind) ∙ sym (append_assoc s.front (all_done cut.before) (all_done behind)) in
      together_soon o first h front back all behind all_unsaid new (parts ∙ ap (λ (x : List Entry). x ++ back) whole) soon (omega (arith, s.within, length-append s.front (all_done cut.before))) (λ e. cc e)
      (few_last s.events cut.before behind cut.is (few_gathered o first k old s)) cut.leaves

  -- settling failed
  pub settles_not : (o : O) (first : ℕ) (h more : List Entry) (old new : W) (fault : SwitchFault) → Stands meanings o first h old → IsSettling meanings (Err fault) old new → BreaksOff meanings (λ _. o) first h more fault new
  settles_not o first h more old new fault s settling = go fault (settling.settles o s.front s.events s.gathers)
    where
      go : (f : SwitchFault) → AfterSettling meanings o s.front s.events (Err f) new → BreaksOff meanings (λ _. o) first h more f new
      go DiskFault doubt = in_doubt o first h more old new s doubt
      go SayFault cut = cut_short o first h more old new s cut
      go _ none = absurd none

  -- ---- a call

  pub cause_at : (o : O) (h : List Entry) (event : Event) (fault : SwitchFault) (old new : W) → meanings.directory new ≡ meanings.directory old
      → IsCause (meanings.is_full o h event) h (outcome_at meanings old o h event) fault → IsCause (meanings.is_full o h event) h (outcome_at meanings new o h event) fault
  cause_at o h event fault old new same cause =
      subst (λ (d : Directory). IsCause (meanings.is_full o h event) h (outcome d (after_all d (meanings.begin o) h) event) fault) (sym same) cause

  -- these entries and gathered events with one more
  pub one_more : (o : O) (first : ℕ) (h : List Entry) (event : Event) (old new : W) (s : Stands meanings o first h old) → GathersOne meanings o s.front s.events event new → Stands meanings o first (h ++ Done event ∷ []) new
  one_more o first h event old new s g = go g.front g.more g.one g.gathers
    where
      last : List Entry
      last = Done event ∷ []

      go : (front : List Entry) (more : List Event) → IsOneMore s.front s.events event front more → meanings.gathers o front more new → Stands meanings o first (h ++ last) new
      go front more (Behind same all) gathers = record {
        front = front;
        events = more;
        is = ap (λ (x : List Entry). x ++ last) s.is ∙ append_assoc s.front (all_done s.events) last ∙ ap (λ (x : List Entry). s.front ++ x) (sym (all_done-append s.events (event ∷ [])))
            ∙ ap (λ (x : List Entry). x ++ all_done (s.events ++ event ∷ [])) (sym same) ∙ ap (λ (es : List Event). front ++ all_done es) (sym all);
        within = omega (arith, s.within, ap length same);
        gathers = gathers;
      }
      go front more (Alone same all) gathers = record {
        front = front;
        events = more;
        is = ap (λ (x : List Entry). x ++ last) (s.is ∙ sym same) ∙ ap (λ (es : List Event). front ++ all_done es) (sym all);
        within = omega (arith, within_all o first h old s, ap length (s.is ∙ sym same));
        gathers = gathers;
      }
      go front more (AtOnce same all) gathers = record {
        front = front;
        events = more;
        is = ap (λ (x : List Entry). x ++ last) s.is ∙ sym same ∙ sym (append-nil front) ∙ ap (λ (es : List Event). front ++ all_done es) (sym all);
        within = omega (arith, within_all o first h old s, ap length (ap (λ (x : List Entry). x ++ last) s.is ∙ sym same), length-append h last);
        gathers = gathers;
      }

  -- a call was done
  pub one_done : (event : Event) (result : Result Outcome SwitchFault) (answer : Outcome) (old new : W)
      → IsAnswered meanings event result old new → result ≡ Ok answer → (o : O) (first : ℕ) (h : List Entry) → Stands meanings o first h old → Stands meanings o first (h ++ Done event ∷ []) new
  one_done event result answer old new called is o first h s =
      one_more o first h event old new s (subst (λ (r : Result Outcome SwitchFault). AfterCall meanings o s.front s.events event r new) is (called.adds o s.front s.events s.gathers))

  -- its answer is the outcome of its event
  pub answer_is : (event : Event) (result : Result Outcome SwitchFault) (answer : Outcome) (old new : W)
      → IsAnswered meanings event result old new → result ≡ Ok answer → (o : O) (first : ℕ) (h : List Entry) → Stands meanings o first h old → answer ≡ outcome_at meanings old o h event
  answer_is event result answer old new called is o first h s =
      called.outcome o s.front s.events s.gathers answer is ∙ ap (λ (x : List Entry). outcome_at meanings old o x event) (sym s.is)

  -- a call broke off
  pub call_breaks : (event : Event) (result : Result Outcome SwitchFault) (fault : SwitchFault) (old new : W)
      → IsAnswered meanings event result old new → result ≡ Err fault → (o : O) (first : ℕ) (h : List Entry) → Stands meanings o first h old → BreaksOff meanings (λ _. o) first h (Done event ∷ []) fault new
  call_breaks event result fault old new called is o first h s =
      go fault (subst (λ (r : Result Outcome SwitchFault). AfterCall meanings o s.front s.events event r new) is (called.adds o s.front s.events s.gathers)) (called.caused o s.front s.events s.gathers fault is)
    where
      all : List Entry
      all = s.front ++ all_done s.events

      idle : (f : SwitchFault) → settled meanings o (all ++ Idle event f ∷ []) new → IsCause (meanings.is_full o all event) all (outcome_at meanings old o all event) f → BreaksIdle meanings (λ _. o) h (Done event ∷ []) f new
      idle f left cause =
          let same : all ≡ h ++ [] = sym s.is ∙ sym (append-nil h) in
          let P : List Entry → Type 0 = λ x. IsCause (meanings.is_full o x event) x (outcome_at meanings new o x event) f in
          record {
            front = [];
            event = event;
            behind = [];
            parts = refl;
            stands = subst (λ (x : List Entry). settled meanings o (x ++ Idle event f ∷ []) new) same left;
            cause = subst P same (cause_at o all event f old new called.directory cause);
          }

      said : IsCutShort meanings o s.front s.events new ⊎ settled meanings o (all ++ Unsaid event ∷ []) new → BreaksOff meanings (λ _. o) first h (Done event ∷ []) SayFault new
      said (inl cut) = cut_short o first h (Done event ∷ []) old new s cut
      said (inr last) = record {
        front = h;
        event = event;
        events = [];
        behind = [];
        parts = sym (append-nil (h ++ Done event ∷ []));
        within = within_all o first h old s;
        few = few_one event;
        stands = subst (λ (x : List Entry). settled meanings o (x ++ Unsaid event ∷ []) new) (sym s.is) last;
      }

      go : (f : SwitchFault) → AfterCall meanings o s.front s.events event (Err f) new → IsAnswerCause (meanings.is_full o all event) all (outcome_at meanings old o all event) f
          → BreaksOff meanings (λ _. o) first h (Done event ∷ []) f new
      go DiskFault doubt cause = in_doubt o first h (Done event ∷ []) old new s doubt
      go SayFault short cause = said short
      go Spent none cause = absurd none
      go other left cause = idle other left cause

  pub one_breaks : (event : Event) (result : Result Outcome SwitchFault) (fault : SwitchFault) (r : Result (Unit {0}) SwitchFault) (old new : W)
      → IsAnswered meanings event result old new → result ≡ Err fault → IsErrAnd r (λ e. e ≡ fault)
      → (o : O) (first : ℕ) (h : List Entry) → Stands meanings o first h old → Goes meanings o first h (Done event ∷ []) r new
  one_breaks event result fault r old new called is failed o first h s =
      let error = err_from_is_err_and r failed in
      subst (λ (x : Result (Unit {0}) SwitchFault). Goes meanings o first h (Done event ∷ []) x new) (sym (error.1 ∙ ap (λ (e : SwitchFault). Err e) error.2))
      (call_breaks event result fault old new called is o first h s)

  -- ---- more entries

  -- nothing was to be added
  pub none_goes : (o : O) (first : ℕ) (h : List Entry) (now : W) → Stands meanings o first h now → Goes meanings o first h [] (Ok tt) now
  none_goes o first h now s = stands_same o first h (h ++ []) now (sym (append-nil h)) s

  -- some were added, and then more broke off
  pub then_breaks : (o : O) (first : ℕ) (h xs ys : List Entry) (fault : SwitchFault) (now : W) → BreaksOff meanings (λ _. o) first (h ++ xs) ys fault now → BreaksOff meanings (λ _. o) first h (xs ++ ys) fault now
  then_breaks o first h xs ys fault now b = go fault b
    where
      both : (became : List Event → List Entry) → BreaksTogether meanings (λ _. o) first (h ++ xs) ys became now → BreaksTogether meanings (λ _. o) first h (xs ++ ys) became now
      both became t = record { front = t.front; event = t.event; events = t.events; behind = t.behind; parts = sym (append_assoc h xs ys) ∙ t.parts; within = t.within; few = t.few; stands = t.stands }

      idle : (f : SwitchFault) → BreaksIdle meanings (λ _. o) (h ++ xs) ys f now → BreaksIdle meanings (λ _. o) h (xs ++ ys) f now
      idle f t =
          let same : (h ++ xs) ++ t.front ≡ h ++ (xs ++ t.front) = append_assoc h xs t.front in
          record {
            front = xs ++ t.front;
            event = t.event;
            behind = t.behind;
            parts = ap (λ (x : List Entry). xs ++ x) t.parts ∙ sym (append_assoc xs t.front (Done t.event ∷ t.behind));
            stands = subst (λ (x : List Entry). settled meanings o (x ++ Idle t.event f ∷ []) now) same t.stands;
            cause = subst (λ (x : List Entry). IsCause (meanings.is_full o x t.event) x (outcome_at meanings now o x t.event) f) same t.cause;
          }

      go : (f : SwitchFault) → BreaksOff meanings (λ _. o) first (h ++ xs) ys f now → BreaksOff meanings (λ _. o) first h (xs ++ ys) f now
      go DiskFault t = both (λ events. Doubt events ∷ []) t
      go SayFault t = both all_unsaid t
      go other t = idle other t

  pub then_goes : (o : O) (first : ℕ) (h xs ys : List Entry) (r : Result (Unit {0}) SwitchFault) (now : W)
      → Goes meanings o first (h ++ xs) ys r now → Goes meanings o first h (xs ++ ys) r now
  then_goes o first h xs ys (Ok u) now goes = stands_same o first ((h ++ xs) ++ ys) (h ++ (xs ++ ys)) now (append_assoc h xs ys) goes
  then_goes o first h xs ys (Err fault) now b = then_breaks o first h xs ys fault now b

  -- what would have come behind a fault doesn't matter
  pub breaks_before : (o : O) (first : ℕ) (h xs ys : List Entry) (fault : SwitchFault) (now : W)
      → BreaksOff meanings (λ _. o) first h xs fault now → BreaksOff meanings (λ _. o) first h (xs ++ ys) fault now
  breaks_before o first h xs ys fault now b = go fault b
    where
      both : (became : List Event → List Entry) → BreaksTogether meanings (λ _. o) first h xs became now → BreaksTogether meanings (λ _. o) first h (xs ++ ys) became now
      both became t =
          let some : List Entry = all_done (t.event ∷ t.events) in
          record {
            front = t.front;
            event = t.event;
            events = t.events;
            behind = t.behind ++ ys;
            parts = sym (append_assoc h xs ys) ∙ ap (λ (x : List Entry). x ++ ys) t.parts ∙ append_assoc (t.front ++ some) t.behind ys;
            within = t.within;
            few = t.few;
            stands = t.stands;
          }

      idle : (f : SwitchFault) → BreaksIdle meanings (λ _. o) h xs f now → BreaksIdle meanings (λ _. o) h (xs ++ ys) f now
      idle f t = record {
        front = t.front;
        event = t.event;
        behind = t.behind ++ ys;
        parts = ap (λ (x : List Entry). x ++ ys) t.parts ∙ append_assoc t.front (Done t.event ∷ t.behind) ys;
        stands = t.stands;
        cause = t.cause;
      }

      go : (f : SwitchFault) → BreaksOff meanings (λ _. o) first h xs f now → BreaksOff meanings (λ _. o) first h (xs ++ ys) f now
      go DiskFault t = both (λ events. Doubt events ∷ []) t
      go SayFault t = both all_unsaid t
      go other t = idle other t

  -- the same over equal entries
  pub goes_same : (o : O) (first : ℕ) (h xs ys : List Entry) (r : Result (Unit {0}) SwitchFault) (now : W)
      → xs ≡ ys → Goes meanings o first h xs r now → Goes meanings o first h ys r now
  goes_same o first h xs ys r now same goes = subst (λ (x : List Entry). Goes meanings o first h x r now) same goes
