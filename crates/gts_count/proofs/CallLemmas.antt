-- A call on a switch with running numbers beside it is one of the switch.
use Rattle.gts_count.proofs.Cited.{◌≡◌, ℕ, ◌⊎◌, inl, inr, Bool, true, false, List, [], ◌∷◌, ◌++◌, Result, Ok, Err, refl, sym, ap, subst, ◌∙◌, is_err, true≢false, append-nil, append_assoc, map-append, AfterCall, AfterSettled, AfterSettling, Alone, AtOnce, Behind, CountedParts, Counting, Counts, CountsIf, Directory, DiskFault, Done, Doubt, Entry, Event, Full, GathersOne, GoesOn, HasDoubt, HasUnsaid, Heard, Idle, IsAccepted, IsAnswerCause, IsAnswered, IsCompacting, IsCutShort, IsInDoubt, IsOneMore, IsReopening, IsSettling, IsTold, Kind, MayLeave, NoMemory, OpenFault, Outcome, SayFault, ShowsTable, Spent, Standing, State, Stopped, SwitchFault, Unsaid, after, after_all, all_done, all_unsaid, counted_meanings, need, outcome, outcome_at, outdated, restart_of, settled, state_at, table, table_of, tally_of, after_all-append}
use Rattle.gts_count.proofs.CountingLemmas.{counts_more, counts_failed, same_after, outdated_after}
use Rattle.gts_count.proofs.TakingLemmas.{counts_restarted}

-- what is noted of settling, by whether it failed
pub noted_settled : (result : Result (Unit {0}) SwitchFault) (c : Counting) → is_err result ≡ false → AfterSettled result c c
noted_settled (Ok u) c is = refl
noted_settled (Err fault) c is = absurd (true≢false is)

pub noted_failed : (result : Result (Unit {0}) SwitchFault) (c : Counting) → is_err result ≡ true → AfterSettled result c (outdated c)
noted_failed (Ok u) c is = absurd (true≢false (sym is))
noted_failed (Err fault) c is = refl

module _ {O T : Type 0} (meanings : Standing O T) where
  -- the state behind entries and what was gathered behind them, under the directory that a switch has
  abbrev pub state_with : T → O → List Entry → List Event → State
  state_with now o entries events = after_all (meanings.directory now) (state_at meanings now o entries) (all_done events)

  state_appended : (now : T) (o : O) (entries : List Entry) (events : List Event) → state_at meanings now o (entries ++ all_done events) ≡ state_with now o entries events
  state_appended now o entries events = after_all-append (meanings.directory now) (meanings.begin o) entries (all_done events)

  -- the numbers of a state under the directory that the switch has then
  under : (state : Directory → State) (h : List Entry) (old new : CountedParts T) → meanings.directory new.switch ≡ meanings.directory old.switch
      → Counts (meanings.directory old.switch) (state (meanings.directory old.switch)) h new.counting → Counts (meanings.directory new.switch) (state (meanings.directory new.switch)) h new.counting
  under state h old new same counts = subst (λ (d : Directory). Counts d (state d) h new.counting) (sym same) counts

  -- the numbers of a history with more entries, under the directory that the switch has then
  behind : (o : O) (h xs : List Entry) (old new : CountedParts T) → meanings.directory new.switch ≡ meanings.directory old.switch
      → Counts (meanings.directory old.switch) (after_all (meanings.directory old.switch) (state_at meanings old.switch o h) xs) (h ++ xs) new.counting
      → Counts (meanings.directory new.switch) (state_at meanings new.switch o (h ++ xs)) (h ++ xs) new.counting
  behind o h xs old new same counts =
      let d : Directory = meanings.directory old.switch in
      let there : Counts d (after_all d (meanings.begin o) (h ++ xs)) (h ++ xs) new.counting =
      subst (λ (s : State). Counts d s (h ++ xs) new.counting) (sym (after_all-append d (meanings.begin o) h xs)) counts in
      under (λ d. after_all d (meanings.begin o) (h ++ xs)) (h ++ xs) old new same there

  -- ---- what was gathered, with the numbers of its state

  module _ (o : O) (entries : List Entry) (events : List Event) (old new : CountedParts T) (same : meanings.directory new.switch ≡ meanings.directory old.switch) where
    abbrev d : Directory
    d = meanings.directory old.switch

    abbrev s : State
    s = state_with old.switch o entries events

    -- all is settled, and maybe an idle entry came behind it
    all_settled : (idle : List Entry) → after_all d s idle ≡ s → settled meanings o ((entries ++ all_done events) ++ idle) new.switch → Counts d s entries new.counting
        → settled (counted_meanings meanings) o ((entries ++ all_done events) ++ idle) new
    all_settled idle still stands counts =
        let h : List Entry = entries ++ all_done events in
        let there : Counts d s (h ++ idle) new.counting = counts_more d s h idle new.counting (counts_more d s entries (all_done events) new.counting counts) in
        (stands, behind o h idle old new same (subst (λ (t : State). Counts d t (h ++ idle) new.counting) (sym (ap (λ (t : State). after_all d t idle) (state_appended old.switch o entries events) ∙ still)) there))

    pub counted_settled : settled meanings o (entries ++ all_done events) new.switch → Counts d s entries new.counting → settled (counted_meanings meanings) o (entries ++ all_done events) new
    counted_settled stands counts =
        subst (λ (h : List Entry). settled (counted_meanings meanings) o h new) (append-nil (entries ++ all_done events))
        (all_settled [] refl (subst (λ (h : List Entry). settled meanings o h new.switch) (sym (append-nil (entries ++ all_done events))) stands) counts)

    pub counted_idle : (event : Event) (fault : SwitchFault) → settled meanings o ((entries ++ all_done events) ++ Idle event fault ∷ []) new.switch → Counts d s entries new.counting
        → settled (counted_meanings meanings) o ((entries ++ all_done events) ++ Idle event fault ∷ []) new
    counted_idle event fault stands counts = all_settled (Idle event fault ∷ []) refl stands counts

    -- a device failed: whatever the numbers are, they aren't current
    failed : (h : List Entry) → new.counting.current ≡ false → HasUnsaid h ⊎ HasDoubt h → settled meanings o h new.switch → settled (counted_meanings meanings) o h new
    failed h is fault stands = (stands, counts_failed (meanings.directory new.switch) (state_at meanings new.switch o h) h new.counting is fault)

    pub counted_doubt : new.counting.current ≡ false → IsInDoubt meanings o entries events new.switch → IsInDoubt (counted_meanings meanings) o entries events new
    counted_doubt is doubt = record { some = doubt.some; leaves = failed (entries ++ Doubt events ∷ []) is (inr (entries, events, [], refl)) doubt.leaves }

    pub counted_cut : new.counting.current ≡ false → IsCutShort meanings o entries events new.switch → IsCutShort (counted_meanings meanings) o entries events new
    counted_cut is cut = record {
      before = cut.before;
      first = cut.first;
      rest = cut.rest;
      is = cut.is;
      leaves = failed (entries ++ all_done cut.before ++ all_unsaid (cut.first ∷ cut.rest)) is (inl (entries ++ all_done cut.before, cut.first, all_unsaid cut.rest, refl)) cut.leaves;
    }

    pub counted_unsaid : (event : Event) → new.counting.current ≡ false → settled meanings o ((entries ++ all_done events) ++ Unsaid event ∷ []) new.switch
        → settled (counted_meanings meanings) o ((entries ++ all_done events) ++ Unsaid event ∷ []) new
    counted_unsaid event is stands = failed ((entries ++ all_done events) ++ Unsaid event ∷ []) is (inl (entries ++ all_done events, event, [], refl)) stands

    -- with one event more
    pub counted_one : (event : Event) → GathersOne meanings o entries events event new.switch → Counts d (after d s event) entries new.counting → GathersOne (counted_meanings meanings) o entries events event new
    counted_one event g counts = record { front = g.front; more = g.more; one = g.one; gathers = (g.gathers, go g.front g.more g.one) }
      where
        last : List Entry
        last = Done event ∷ []

        -- the state behind all of them
        whole : (front : List Entry) (more : List Event) → front ++ all_done more ≡ (entries ++ all_done events) ++ last → state_with old.switch o front more ≡ after d s event
        whole front more is =
            sym (state_appended old.switch o front more) ∙ ap (λ (h : List Entry). state_at meanings old.switch o h) is
            ∙ after_all-append d (meanings.begin o) (entries ++ all_done events) last ∙ ap (λ (t : State). after d t event) (state_appended old.switch o entries events)

        there : (front : List Entry) (more : List Event) (xs : List Entry) → front ++ all_done more ≡ (entries ++ all_done events) ++ last → front ≡ entries ++ xs
            → Counts (meanings.directory new.switch) (state_with new.switch o front more) front new.counting
        there front more xs is longer =
            let grown : Counts d (after d s event) front new.counting = subst (λ (h : List Entry). Counts d (after d s event) h new.counting) (sym longer) (counts_more d (after d s event) entries xs new.counting counts) in
            under (λ e. after_all e (after_all e (meanings.begin o) front) (all_done more)) front old new same
            (subst (λ (t : State). Counts d t front new.counting) (sym (whole front more is)) grown)

        go : (front : List Entry) (more : List Event) → IsOneMore entries events event front more → Counts (meanings.directory new.switch) (state_with new.switch o front more) front new.counting
        go front more (Behind f m) =
            there front more []
            (ap (λ (h : List Entry). h ++ all_done more) f ∙ ap (λ (es : List Event). entries ++ all_done es) m ∙ ap (λ (h : List Entry). entries ++ h) (map-append (λ (e : Event). Done e) events (event ∷ []))
            ∙ sym (append_assoc entries (all_done events) last)) (f ∙ sym (append-nil entries))
        go front more (Alone f m) = there front more (all_done events) (ap (λ (h : List Entry). h ++ all_done more) f ∙ ap (λ (es : List Event). (entries ++ all_done events) ++ all_done es) m) f
        go front more (AtOnce f m) =
            there front more (all_done events ++ last)
            (ap (λ (es : List Event). front ++ all_done es) m ∙ append-nil front ∙ f) (f ∙ append_assoc entries (all_done events) last)

    pub counted_settling : (result : Result (Unit {0}) SwitchFault) → AfterSettled result old.counting new.counting → Counts d s entries old.counting → AfterSettling meanings o entries events result new.switch
        → AfterSettling (counted_meanings meanings) o entries events result new
    counted_settling (Ok u) noted counts a = counted_settled a (same_after d s entries old.counting new.counting noted counts)
    counted_settling (Err DiskFault) noted counts a = counted_doubt (outdated_after old.counting new.counting noted) a
    counted_settling (Err SayFault) noted counts a = counted_cut (outdated_after old.counting new.counting noted) a
    counted_settling _ noted counts a = absurd a

    pub counted_answer : (event : Event) (result : Result Outcome SwitchFault) → GoesOn d s entries event result new.counting → AfterCall meanings o entries events event result new.switch
        → AfterCall (counted_meanings meanings) o entries events event result new
    counted_answer event (Ok answer) goes a = counted_one event a goes
    counted_answer event (Err DiskFault) goes a = counted_doubt goes a
    counted_answer event (Err SayFault) goes (inl cut) = inl (counted_cut goes cut)
    counted_answer event (Err SayFault) goes (inr last) = inr (counted_unsaid event goes last)
    counted_answer event (Err (Full used need limit)) goes a = counted_idle event (Full used need limit) a goes
    counted_answer event (Err (Stopped by)) goes a = counted_idle event (Stopped by) a goes
    counted_answer event (Err Spent) goes a = absurd a
    counted_answer event (Err NoMemory) goes a = counted_idle event NoMemory a goes

  -- ---- the calls

  pub counted_call : (event : Event) (result : Result Outcome SwitchFault) (old new : CountedParts T) → IsAnswered meanings event result old.switch new.switch
      → ((o : O) (entries : List Entry) (events : List Event) → meanings.gathers o entries events old.switch → IsTold result (meanings.directory old.switch) (state_with old.switch o entries events) event
      → Counts (meanings.directory old.switch) (state_with old.switch o entries events) entries old.counting
      → GoesOn (meanings.directory old.switch) (state_with old.switch o entries events) entries event result new.counting)
      → IsAnswered (counted_meanings meanings) event result old new
  counted_call event result old new t goes = record {
    directory = t.directory;
    adds = λ o entries events stood.
        counted_answer o entries events old new t.directory event result
        (goes o entries events stood.0
        (λ answer e. t.outcome o entries events stood.0 answer e ∙ ap (λ (s : State). outcome (meanings.directory old.switch) s event) (state_appended old.switch o entries events)) stood.1)
        (t.adds o entries events stood.0);
    outcome = λ o entries events stood answer e. t.outcome o entries events stood.0 answer e;
    caused = λ o entries events stood fault e. t.caused o entries events stood.0 fault e;
  }

  pub counted_settles : (result : Result (Unit {0}) SwitchFault) (old new : CountedParts T) → IsSettling meanings result old.switch new.switch → AfterSettled result old.counting new.counting → IsSettling (counted_meanings meanings) result old new
  counted_settles result old new r noted = record {
    directory = r.directory;
    settles = λ o entries events stood. counted_settling o entries events old new r.directory result noted stood.1 (r.settles o entries events stood.0);
    rests = λ o h stood.
        let rested = r.rests o h stood.0 in
        let same : new.counting ≡ old.counting = subst (λ (x : Result (Unit {0}) SwitchFault). AfterSettled x old.counting new.counting) rested.0 noted in
        let d : Directory = meanings.directory old.switch in (
          rested.0,
          (
            rested.1,
            under (λ e. after_all e (meanings.begin o) h) h old new r.directory (same_after d (state_at meanings old.switch o h) h old.counting new.counting same stood.1),
          ),
        );
  }

  pub counted_leave : (now : CountedParts T) → MayLeave meanings now.switch → MayLeave (counted_meanings meanings) now
  counted_leave now leave = λ o h c kind m stood accepted. (
    leave o h c kind m stood.0 accepted,
    behind o h (Idle (Heard c kind m) NoMemory ∷ []) now now refl (counts_more (meanings.directory now.switch) (state_at meanings now.switch o h) h (Idle (Heard c kind m) NoMemory ∷ []) now.counting stood.1),
  )

  -- a message that was left, since there was no memory for its numbers, once all was settled
  pub left_call : (c : ℕ) (kind : Kind) (m : List ℕ) (old mid new : CountedParts T) (answer : Result (Unit {0}) SwitchFault) (u : Unit {0}) → mid.switch ≡ old.switch
      → ((d : Directory) (s : State) (h : List Entry) → Counts d s h old.counting → Counts d s h mid.counting)
      → ((d : Directory) (s : State) (h : List Entry) → Counts d s h old.counting → IsAccepted (outcome d s (Heard c kind m)))
      → IsSettling (counted_meanings meanings) answer mid new → answer ≡ Ok u → MayLeave meanings new.switch
      → IsAnswered (counted_meanings meanings) (Heard c kind m) (Err NoMemory) old new
  left_call c kind m old mid new answer u same keeps accepted settling is leave = record {
    directory = settling.directory ∙ ap meanings.directory same;
    adds = λ o entries events stood.
        let h : List Entry = entries ++ all_done events in
        let all : settled (counted_meanings meanings) o h new = settled_by o entries events stood in
        let there : IsAccepted (outcome_at meanings new.switch o h event) =
        subst (λ (d : Directory). IsAccepted (outcome d (after_all d (meanings.begin o) h) event)) (sym (settling.directory ∙ ap meanings.directory same)) (here o entries events stood) in
        (counted_leave new leave) o h c kind m all there;
    outcome = λ o entries events stood fault e. absurd (cc e);
    caused = λ o entries events stood fault e.
        let h : List Entry = entries ++ all_done events in
        let equal : NoMemory ≡ fault = cc in
        subst (λ (f : SwitchFault). IsAnswerCause (meanings.is_full o h event) h (outcome_at meanings old.switch o h event) f) equal (here o entries events stood);
  }
    where
      event : Event
      event = Heard c kind m

      settled_by : (o : O) (entries : List Entry) (events : List Event) → (counted_meanings meanings).gathers o entries events old → settled (counted_meanings meanings) o (entries ++ all_done events) new
      settled_by o entries events stood =
          let state : Directory → State = λ d. after_all d (after_all d (meanings.begin o) entries) (all_done events) in
          let d : Directory = meanings.directory old.switch in
          let kept : (counted_meanings meanings).gathers o entries events mid = (
            subst (λ (w : T). meanings.gathers o entries events w) (sym same) stood.0,
            under state entries old mid (ap meanings.directory same) (keeps d (state d) entries stood.1),
          ) in
          subst (λ (r : Result (Unit {0}) SwitchFault). AfterSettling (counted_meanings meanings) o entries events r new) is (settling.settles o entries events kept)

      here : (o : O) (entries : List Entry) (events : List Event) → (counted_meanings meanings).gathers o entries events old → IsAccepted (outcome_at meanings old.switch o (entries ++ all_done events) event)
      here o entries events stood =
          subst (λ (s : State). IsAccepted (outcome (meanings.directory old.switch) s event)) (sym (state_appended old.switch o entries events))
          (accepted (meanings.directory old.switch) (state_with old.switch o entries events) entries stood.1)

  -- settling failed before a message was left
  pub unsettled_call : (event : Event) (old mid new : CountedParts T) (answer : Result (Unit {0}) SwitchFault) (fault : SwitchFault) → mid.switch ≡ old.switch
      → ((d : Directory) (s : State) (h : List Entry) → Counts d s h old.counting → Counts d s h mid.counting)
      → IsSettling (counted_meanings meanings) answer mid new → answer ≡ Err fault → IsAnswered (counted_meanings meanings) event (Err fault) old new
  unsettled_call event old mid new answer fault same keeps settling is = record {
    directory = settling.directory ∙ ap meanings.directory same;
    adds = λ o entries events stood. adds o entries events fault (after o entries events stood);
    outcome = λ o entries events stood answer e. absurd (cc e);
    caused = λ o entries events stood f e.
        let equal : fault ≡ f = cc in
        let h : List Entry = entries ++ all_done events in
        subst (λ (x : SwitchFault). IsAnswerCause (meanings.is_full o h event) h (outcome_at meanings old.switch o h event) x) equal (caused o entries events fault (after o entries events stood));
  }
    where
      after : (o : O) (entries : List Entry) (events : List Event) → (counted_meanings meanings).gathers o entries events old → AfterSettling (counted_meanings meanings) o entries events (Err fault) new
      after o entries events stood =
          let state : Directory → State = λ d. after_all d (after_all d (meanings.begin o) entries) (all_done events) in
          let d : Directory = meanings.directory old.switch in
          let kept : (counted_meanings meanings).gathers o entries events mid = (
            subst (λ (w : T). meanings.gathers o entries events w) (sym same) stood.0,
            under state entries old mid (ap meanings.directory same) (keeps d (state d) entries stood.1),
          ) in
          subst (λ (r : Result (Unit {0}) SwitchFault). AfterSettling (counted_meanings meanings) o entries events r new) is (settling.settles o entries events kept)

      adds : (o : O) (entries : List Entry) (events : List Event) (f : SwitchFault) → AfterSettling (counted_meanings meanings) o entries events (Err f) new → AfterCall (counted_meanings meanings) o entries events event (Err f) new
      adds o entries events DiskFault a = a
      adds o entries events SayFault a = inl a
      adds o entries events _ a = absurd a

      caused : (o : O) (entries : List Entry) (events : List Event) (f : SwitchFault) → AfterSettling (counted_meanings meanings) o entries events (Err f) new
          → (let h : List Entry = entries ++ all_done events in IsAnswerCause (meanings.is_full o h event) h (outcome_at meanings old.switch o h event) f)
      caused o entries events DiskFault a = tt
      caused o entries events SayFault a = tt
      caused o entries events _ a = absurd a

  pub counted_reopening : (observed : Type 0) (result : Result (Unit {0}) OpenFault) (old new : CountedParts T) → new.counting ≡ old.counting → IsReopening meanings observed result old.switch new.switch → IsReopening (counted_meanings meanings) observed result old new
  counted_reopening observed result old new same r = record {
    directory = r.directory;
    adds = λ o h stood.
        let d : Directory = meanings.directory old.switch in
        let s : State = state_at meanings old.switch o h in (
          r.adds o h stood.0,
          behind o h (restart_of result) old new r.directory
              (subst (λ (c : Counting). Counts d (after_all d s (restart_of result)) (h ++ restart_of result) c) (sym same) (counts_restarted d s h old.counting old.counting result stood.1)),
        );
    fault = λ told o h stood f e. r.fault told o h stood.0 f e;
  }

  pub counted_compacting : (result : Result (Unit {0}) SwitchFault) (old new : CountedParts T) → new.counting ≡ old.counting → IsCompacting meanings result old.switch new.switch → IsCompacting (counted_meanings meanings) result old new
  counted_compacting result old new same r = record {
    directory = r.directory;
    begins = r.begins;
    done = λ o h stood e. (r.done o h stood.0 e, subst (λ (s : State). Counts (meanings.directory new.switch) (after_all (meanings.directory new.switch) s h) h new.counting) (sym (r.begins o h)) (still o h stood.1));
    left = λ o h stood e. r.left o h stood.0 e;
    idle = λ o h stood f e i. (r.idle o h stood.0 f e i, still o h stood.1);
    caused = λ o h stood f e. r.caused o h stood.0 f e;
  }
    where
      still : (o : O) (h : List Entry) → Counts (meanings.directory old.switch) (state_at meanings old.switch o h) h old.counting → Counts (meanings.directory new.switch) (state_at meanings new.switch o h) h new.counting
      still o h counts =
          subst (λ (d : Directory). Counts d (after_all d (meanings.begin o) h) h new.counting) (sym r.directory)
          (subst (λ (c : Counting). Counts (meanings.directory old.switch) (state_at meanings old.switch o h) h c) (sym same) counts)

-- the table of the numbers is that of the need
module _ {O T : Type 0} (meanings : Standing O T) where
  pub shows : (parts : CountedParts T) (text : List ℕ) → text ≡ table_of (tally_of parts.counting.numbers) → ShowsTable meanings parts text
  shows parts text is o h stood said sure =
      is ∙ go parts.counting.current stood.1
    where
      go : (b : Bool) → CountsIf b (meanings.directory parts.switch) (state_at meanings parts.switch o h) h parts.counting
          → table_of (tally_of parts.counting.numbers) ≡ table (meanings.directory parts.switch) (need (meanings.directory parts.switch) (state_at meanings parts.switch o h))
      go true counts = ap table_of counts.1.numbers
      go false (inl unsaid) = absurd (said unsaid)
      go false (inr doubt) = absurd (sure doubt)
