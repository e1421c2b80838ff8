-- An engine in a hall gathers what a feed asks of it, whatever compactions are done meanwhile.
use Rattle.gts_circuits.proofs.Cited.{◌≡◌, ℕ, ◌≤◌, ◌⊎◌, inl, inr, ⊎_elim, Bool, true, false, List, [], ◌∷◌, ◌++◌, length, Result, Ok, Err, refl, sym, ap, subst, ◌∙◌, arith, IsErrOf, append-nil, AfterCall, AfterHearing, AfterSettling, Alone, AreCramped, AtOnce, Beginning, Behind, Caller, Directory, Disk, DiskFault, Done, Doubt, Engine, Entry, Event, Full, GathersCompacted, GathersNone, GathersOne, GathersPlain, HasCallCause, HasDoubt, HasUnsaid, Idle, IsAccepted, IsAnswerCause, IsAnswered, IsCrampedFor, IsCutShort, IsFullEither, IsGatheredWithRoom, IsHeard, IsInDoubt, IsOneMore, IsSettling, NoMemory, Origin, Outcome, Rose, Say, SayFault, Spent, Standing, State, StationMeanings, Stopped, SwitchFault, Unsaid, after_all, all_done, all_unsaid, housed_meanings, meanings_of, origin_with, outcome, outcome_at, outcome_behind, settled, state_at, used_at, begun, as_hearing}
use Rattle.std.proofs.lemmas.List.{append_assoc}
use Rattle.gts_circuits.proofs.StandingLemmas.{split_last, split_end, full_accepts, rose_on, rose_from, doubt_on, unsaid_on, still_on}

module _ (b : Beginning) where
  -- ---- what is told of entries

  -- Full was answered only where it might be, and a device failed only where the count of its faults had risen to these
  pub record Facts (entries : List Entry) (disk say : ℕ) : Type 0 where
    pub cramped : b.makes_room ≡ true → AreCramped b entries
    pub disk_failed : HasDoubt entries → Rose b.disk disk
    pub say_failed : HasUnsaid entries → Rose b.say say

  -- so it is of an entry behind these
  pub record Allowed (entries : List Entry) (entry : Entry) (disk say : ℕ) : Type 0 where
    pub full : b.makes_room ≡ true → (event : Event) (used need limit : ℕ) → entry ≡ Idle event (Full used need limit) → IsCrampedFor b entries event
    pub doubt : (events : List Event) → entry ≡ Doubt events → Rose b.disk disk
    pub unsaid : (event : Event) → entry ≡ Unsaid event → Rose b.say say

  facts_later : (entries : List Entry) (disk disk_now say say_now : ℕ) → disk ≤ disk_now → say ≤ say_now → Facts entries disk say → Facts entries disk_now say_now
  facts_later entries disk disk_now say say_now d s f = record {
    cramped = f.cramped;
    disk_failed = λ e. rose_on b.disk disk disk_now (f.disk_failed e) d;
    say_failed = λ e. rose_on b.say say say_now (f.say_failed e) s;
  }

  facts_one : (entries : List Entry) (entry : Entry) (disk say : ℕ) → Facts entries disk say → Allowed entries entry disk say → Facts (entries ++ entry ∷ []) disk say
  facts_one entries entry disk say f a = record {
    cramped = λ makes front event used need limit back is.
        ⊎_elim {C = IsCrampedFor b front event}
        (λ last. subst (λ (es : List Entry). IsCrampedFor b es event) last.1 (a.full makes event used need limit last.0))
        (λ earlier. f.cramped makes front event used need limit earlier.0 earlier.1)
        (split_end entries entry front (Idle event (Full used need limit)) back is);
    disk_failed = λ e.
        ⊎_elim {C = Rose b.disk disk} (λ last. a.doubt e.1 last) (λ earlier. f.disk_failed (e.0, e.1, earlier.0, earlier.1))
        (split_last entries entry e.0 (Doubt e.1) e.2 e.3);
    say_failed = λ e.
        ⊎_elim {C = Rose b.say say} (λ last. a.unsaid e.1 last) (λ earlier. f.say_failed (e.0, e.1, earlier.0, earlier.1))
        (split_last entries entry e.0 (Unsaid e.1) e.2 e.3);
  }

  done_allowed : (entries : List Entry) (event : Event) (disk say : ℕ) → Allowed entries (Done event) disk say
  done_allowed entries event disk say = record {
    full = λ makes other used need limit e. absurd (cc e);
    doubt = λ events e. absurd (cc e);
    unsaid = λ other e. absurd (cc e);
  }

  unsaid_allowed : (entries : List Entry) (event : Event) (disk say : ℕ) → Rose b.say say → Allowed entries (Unsaid event) disk say
  unsaid_allowed entries event disk say rose = record {
    full = λ makes other used need limit e. absurd (cc e);
    doubt = λ events e. absurd (cc e);
    unsaid = λ other e. rose;
  }

  doubt_allowed : (entries : List Entry) (events : List Event) (disk say : ℕ) → Rose b.disk disk → Allowed entries (Doubt events) disk say
  doubt_allowed entries events disk say rose = record {
    full = λ makes other used need limit e. absurd (cc e);
    doubt = λ others e. rose;
    unsaid = λ other e. absurd (cc e);
  }

  idle_allowed : (entries : List Entry) (event : Event) (fault : SwitchFault) (disk say : ℕ)
      → (b.makes_room ≡ true → (used need limit : ℕ) → fault ≡ Full used need limit → IsCrampedFor b entries event) → Allowed entries (Idle event fault) disk say
  idle_allowed entries event fault disk say full = record {
    full = λ makes other used need limit e.
        let same : event ≡ other = cc e in
        let is : fault ≡ Full used need limit = cc e in
        subst (λ (x : Event). IsCrampedFor b entries x) same (full makes used need limit is);
    doubt = λ events e. absurd (cc e);
    unsaid = λ other e. absurd (cc e);
  }

  facts_done : (entries : List Entry) (events : List Event) (disk say : ℕ) → Facts entries disk say → Facts (entries ++ all_done events) disk say
  facts_done entries [] disk say f = subst (λ (l : List Entry). Facts l disk say) (sym (append-nil entries)) f
  facts_done entries (e ∷ events) disk say f =
      let one = facts_one entries (Done e) disk say f (done_allowed entries e disk say) in
      subst (λ (l : List Entry). Facts l disk say) (append_assoc entries (Done e ∷ []) (all_done events)) (facts_done (entries ++ Done e ∷ []) events disk say one)

  facts_unsaid : (entries : List Entry) (events : List Event) (disk say : ℕ) → Rose b.say say → Facts entries disk say → Facts (entries ++ all_unsaid events) disk say
  facts_unsaid entries [] disk say rose f = subst (λ (l : List Entry). Facts l disk say) (sym (append-nil entries)) f
  facts_unsaid entries (e ∷ events) disk say rose f =
      let one = facts_one entries (Unsaid e) disk say f (unsaid_allowed entries e disk say rose) in
      subst (λ (l : List Entry). Facts l disk say) (append_assoc entries (Unsaid e ∷ []) (all_unsaid events)) (facts_unsaid (entries ++ Unsaid e ∷ []) events disk say rose one)

  -- ---- counts that are as they were

  -- no device failed at these entries, and so its count is as it was
  pub record Still (entries : List Entry) (disk say : ℕ) : Type 0 where
    pub disk_still : (HasDoubt entries → ⊥) → disk ≡ b.disk
    pub say_still : (HasUnsaid entries → ⊥) → say ≡ b.say

  -- entries that have what these have, and that tell of each fault with which a call was answered
  pub record Told {T : Type 0} (entries now : List Entry) (result : Result T SwitchFault) : Type 0 where
    pub doubt_on : HasDoubt entries → HasDoubt now
    pub unsaid_on : HasUnsaid entries → HasUnsaid now
    pub doubt : IsErrOf result DiskFault → HasDoubt now
    pub unsaid : IsErrOf result SayFault → HasUnsaid now

  pub still_now : {T : Type 0} (entries now : List Entry) (result : Result T SwitchFault) (disk disk_now say say_now : ℕ) → HasCallCause result disk disk_now say say_now → Still entries disk say
      → Told entries now result → Still now disk_now say_now
  still_now entries now result disk disk_now say say_now cause s t = record {
    disk_still = still_on b.disk disk disk_now (HasDoubt now) (HasDoubt entries) (IsErrOf result DiskFault) t.doubt_on t.doubt s.disk_still cause.disk_still;
    say_still = still_on b.say say say_now (HasUnsaid now) (HasUnsaid entries) (IsErrOf result SayFault) t.unsaid_on t.unsaid s.say_still cause.say_still;
  }

  -- the same entries, those and events that were done, and some more behind these
  told_same : {T : Type 0} (entries : List Entry) (result r : Result T SwitchFault) → result ≡ r → (IsErrOf r DiskFault → ⊥) → (IsErrOf r SayFault → ⊥) → Told entries entries result
  told_same entries result r is d s = record { doubt_on = λ x. x; unsaid_on = λ x. x; doubt = λ e. absurd (d (sym is ∙ e)); unsaid = λ e. absurd (s (sym is ∙ e)) }

  told_done : {T : Type 0} (entries : List Entry) (events : List Event) (result r : Result T SwitchFault) → result ≡ r → (IsErrOf r DiskFault → ⊥) → (IsErrOf r SayFault → ⊥)
      → Told entries (entries ++ all_done events) result
  told_done entries events result r is d s = record {
    doubt_on = doubt_on entries (all_done events);
    unsaid_on = unsaid_on entries (all_done events);
    doubt = λ e. absurd (d (sym is ∙ e));
    unsaid = λ e. absurd (s (sym is ∙ e));
  }

  told_more : {T : Type 0} (entries : List Entry) (events : List Event) (more : List Entry) (result r : Result T SwitchFault) → result ≡ r
      → (IsErrOf r DiskFault → HasDoubt ((entries ++ all_done events) ++ more)) → (IsErrOf r SayFault → HasUnsaid ((entries ++ all_done events) ++ more))
      → Told entries ((entries ++ all_done events) ++ more) result
  told_more entries events more result r is d s = record {
    doubt_on = λ x. doubt_on (entries ++ all_done events) more (doubt_on entries (all_done events) x);
    unsaid_on = λ x. unsaid_on (entries ++ all_done events) more (unsaid_on entries (all_done events) x);
    doubt = λ e. d (sym is ∙ e);
    unsaid = λ e. s (sym is ∙ e);
  }

  still_done : (entries : List Entry) (events : List Event) (disk say : ℕ) → Still entries disk say → Still (entries ++ all_done events) disk say
  still_done entries events disk say s = record {
    disk_still = λ n. s.disk_still (λ x. n (doubt_on entries (all_done events) x));
    say_still = λ n. s.say_still (λ x. n (unsaid_on entries (all_done events) x));
  }

module _ {P W : Type 0} (engine : W → Engine P) (makes : W → Bool) (station : StationMeanings P) where
  abbrev pub M : Standing Beginning W
  M = housed_meanings engine makes station

  abbrev pub E : Standing Origin (Engine P)
  E = meanings_of station Caller

  abbrev pub disk_of : W → ℕ
  disk_of w = station.disk_faults (engine w).station

  abbrev pub say_of : W → ℕ
  say_of w = station.say_faults (engine w).station

  module _ (b : Beginning) (old new : W) (same : makes new ≡ makes old) where
    -- an engine with other compactions
    gathered : (cs : List ℕ) (front : List Entry) (more : List Event) → (b.makes_room ≡ false → cs ≡ []) → makes old ≡ b.makes_room → b.disk ≤ disk_of new → b.say ≤ say_of new
        → Facts b front (disk_of new) (say_of new) → Still b front (disk_of new) (say_of new) → E.gathers (origin_with b cs) front more (engine new) → M.gathers b front more new
    gathered cs front more none mode d s f st g = (
      record {
        compactions = cs;
        keeps = g;
        none = none;
        cramped = f.cramped;
        disk_later = d;
        disk_failed = f.disk_failed;
        disk_still = st.disk_still;
        say_later = s;
        say_failed = f.say_failed;
        say_still = st.say_still;
      },
      same ∙ mode,
    )

    module _ {T : Type 0} (result : Result T SwitchFault) (cause : HasCallCause result (disk_of old) (disk_of new) (say_of old) (say_of new)) (cs : List ℕ) (entries : List Entry) (events : List Event)
        (none : b.makes_room ≡ false → cs ≡ []) (mode : makes old ≡ b.makes_room) (d : b.disk ≤ disk_of old) (s : b.say ≤ say_of old) (f : Facts b entries (disk_of old) (say_of old))
        (st : Still b entries (disk_of old) (say_of old)) where
      d' : b.disk ≤ disk_of new
      d' = omega (arith, d, cause.disk_later)

      s' : b.say ≤ say_of new
      s' = omega (arith, s, cause.say_later)

      -- the same facts, now
      now : Facts b entries (disk_of new) (say_of new)
      now = facts_later b entries (disk_of old) (disk_of new) (say_of old) (say_of new) cause.disk_later cause.say_later f

      all_now : Facts b (entries ++ all_done events) (disk_of new) (say_of new)
      all_now = facts_done b entries events (disk_of new) (say_of new) now

      stand : (front : List Entry) (more : List Event) → Facts b front (disk_of new) (say_of new) → Told b entries front result → E.gathers (origin_with b cs) front more (engine new) → M.gathers b front more new
      stand front more facts told g =
          gathered cs front more none mode d' s' facts (still_now b entries front result (disk_of old) (disk_of new) (say_of old) (say_of new) cause st told) g

      pub all_settled : (x : T) → result ≡ Ok x → settled E (origin_with b cs) (entries ++ all_done events) (engine new) → settled M b (entries ++ all_done events) new
      all_settled x is g = stand (entries ++ all_done events) [] all_now (told_done b entries events result (Ok x) is (λ e. cc e) (λ e. cc e)) g

      disk_rose : result ≡ Err DiskFault → Rose b.disk (disk_of new)
      disk_rose is = rose_from b.disk (disk_of old) (disk_of new) d (cause.disk_failed (failed is))
        where
          failed : result ≡ Err DiskFault → IsErrOf result DiskFault
          failed e = subst (λ (r : Result T SwitchFault). IsErrOf r DiskFault) (sym e) refl

      say_rose : result ≡ Err SayFault → Rose b.say (say_of new)
      say_rose is = rose_from b.say (say_of old) (say_of new) s (cause.say_failed (failed is))
        where
          failed : result ≡ Err SayFault → IsErrOf result SayFault
          failed e = subst (λ (r : Result T SwitchFault). IsErrOf r SayFault) (sym e) refl

      pub in_doubt : result ≡ Err DiskFault → IsInDoubt E (origin_with b cs) entries events (engine new) → IsInDoubt M b entries events new
      in_doubt is a = record {
        some = a.some;
        leaves = stand (entries ++ Doubt events ∷ []) []
            (facts_one b entries (Doubt events) (disk_of new) (say_of new) now (doubt_allowed b entries events (disk_of new) (say_of new) (disk_rose is)))
            (record {
              doubt_on = doubt_on entries (Doubt events ∷ []);
              unsaid_on = unsaid_on entries (Doubt events ∷ []);
              doubt = λ e. (entries, events, [], refl);
              unsaid = λ e. absurd (let no : ◌≡◌ {A = Result T SwitchFault} (Err DiskFault) (Err SayFault) = sym is ∙ e in cc no);
            }) a.leaves;
      }

      pub doubt_alone : result ≡ Err DiskFault → (event : Event) → settled E (origin_with b cs) ((entries ++ all_done events) ++ Doubt (event ∷ []) ∷ []) (engine new)
          → settled M b ((entries ++ all_done events) ++ Doubt (event ∷ []) ∷ []) new
      doubt_alone is event g =
          let all : List Entry = entries ++ all_done events in
          stand (all ++ Doubt (event ∷ []) ∷ []) []
          (facts_one b all (Doubt (event ∷ [])) (disk_of new) (say_of new) all_now (doubt_allowed b all (event ∷ []) (disk_of new) (say_of new) (disk_rose is)))
          (told_more b entries events (Doubt (event ∷ []) ∷ []) result (Err DiskFault) is (λ e. (all, event ∷ [], [], refl)) (λ e. absurd (cc e))) g

      pub cut_short : result ≡ Err SayFault → IsCutShort E (origin_with b cs) entries events (engine new) → IsCutShort M b entries events new
      cut_short is a =
          let facts = facts_unsaid b (entries ++ all_done a.before) (a.first ∷ a.rest) (disk_of new) (say_of new) (say_rose is) (facts_done b entries a.before (disk_of new) (say_of new) now) in
          record {
            before = a.before;
            first = a.first;
            rest = a.rest;
            is = a.is;
            leaves = stand ((entries ++ all_done a.before) ++ all_unsaid (a.first ∷ a.rest)) [] facts
                (told_more b entries a.before (all_unsaid (a.first ∷ a.rest)) result (Err SayFault) is (λ e. absurd (cc e)) (λ e. (entries ++ all_done a.before, a.first, all_unsaid a.rest, refl))) a.leaves;
          }

      pub one_unsaid : result ≡ Err SayFault → (event : Event) → settled E (origin_with b cs) ((entries ++ all_done events) ++ Unsaid event ∷ []) (engine new)
          → settled M b ((entries ++ all_done events) ++ Unsaid event ∷ []) new
      one_unsaid is event g =
          let all : List Entry = entries ++ all_done events in
          stand (all ++ Unsaid event ∷ []) []
          (facts_one b all (Unsaid event) (disk_of new) (say_of new) all_now (unsaid_allowed b all event (disk_of new) (say_of new) (say_rose is)))
          (told_more b entries events (Unsaid event ∷ []) result (Err SayFault) is (λ e. absurd (cc e)) (λ e. (all, event, [], refl))) g

      pub one_idle : (event : Event) (fault : SwitchFault) → result ≡ Err fault → (fault ≡ DiskFault → ⊥) → (fault ≡ SayFault → ⊥) → (b.makes_room ≡ true → (used need limit : ℕ) → fault ≡ Full used need limit → IsCrampedFor b (entries ++ all_done events) event)
          → settled E (origin_with b cs) ((entries ++ all_done events) ++ Idle event fault ∷ []) (engine new) → settled M b ((entries ++ all_done events) ++ Idle event fault ∷ []) new
      one_idle event fault is no_disk no_say full g =
          let all : List Entry = entries ++ all_done events in
          stand (all ++ Idle event fault ∷ []) [] (facts_one b all (Idle event fault) (disk_of new) (say_of new) all_now (idle_allowed b all event fault (disk_of new) (say_of new) full))
          (told_more b entries events (Idle event fault ∷ []) result (Err fault) is (λ e. absurd (no_disk (cc e))) (λ e. absurd (no_say (cc e)))) g

      pub one_more : (x : T) → result ≡ Ok x → (event : Event) → GathersOne E (origin_with b cs) entries events event (engine new) → GathersOne M b entries events event new
      one_more x ok event g = record { front = g.front; more = g.more; one = g.one; gathers = stand g.front g.more (facts g.front g.more g.one) (told g.front g.more g.one) g.gathers }
        where
          told : (front : List Entry) (more : List Event) → IsOneMore entries events event front more → Told b entries front result
          told front more (Behind is all) = subst (λ (l : List Entry). Told b entries l result) (sym is) (told_same b entries result (Ok x) ok (λ e. cc e) (λ e. cc e))
          told front more (Alone is all) = subst (λ (l : List Entry). Told b entries l result) (sym is) (told_done b entries events result (Ok x) ok (λ e. cc e) (λ e. cc e))
          told front more (AtOnce is all) =
              subst (λ (l : List Entry). Told b entries l result) (sym is)
              (told_more b entries events (Done event ∷ []) result (Ok x) ok (λ e. absurd (cc e)) (λ e. absurd (cc e)))

          facts : (front : List Entry) (more : List Event) → IsOneMore entries events event front more → Facts b front (disk_of new) (say_of new)
          facts front more (Behind is all) = subst (λ (l : List Entry). Facts b l (disk_of new) (say_of new)) (sym is) now
          facts front more (Alone is all) = subst (λ (l : List Entry). Facts b l (disk_of new) (say_of new)) (sym is) all_now
          facts front more (AtOnce is all) =
              subst (λ (l : List Entry). Facts b l (disk_of new) (say_of new)) (sym is)
              (facts_one b (entries ++ all_done events) (Done event) (disk_of new) (say_of new) all_now (done_allowed b (entries ++ all_done events) event (disk_of new) (say_of new)))

    -- what a call leaves
    pub lift_call : (event : Event) (result : Result Outcome SwitchFault) → HasCallCause result (disk_of old) (disk_of new) (say_of old) (say_of new)
        → (cs : List ℕ) (entries : List Entry) (events : List Event) → (b.makes_room ≡ false → cs ≡ []) → makes old ≡ b.makes_room → b.disk ≤ disk_of old → b.say ≤ say_of old
        → Facts b entries (disk_of old) (say_of old) → Still b entries (disk_of old) (say_of old)
        → (b.makes_room ≡ true → (used need limit : ℕ) → result ≡ Err (Full used need limit) → IsCrampedFor b (entries ++ all_done events) event)
        → AfterCall E (origin_with b cs) entries events event result (engine new) → AfterCall M b entries events event result new
    lift_call event result cause cs entries events none mode d s f st full a = go result refl a
      where
        told : (fault : SwitchFault) → result ≡ Err fault → b.makes_room ≡ true → (used need limit : ℕ) → fault ≡ Full used need limit → IsCrampedFor b (entries ++ all_done events) event
        told fault is m used need limit e = full m used need limit (is ∙ ap (λ (x : SwitchFault). Err x) e)

        idle : (fault : SwitchFault) → result ≡ Err fault → (fault ≡ DiskFault → ⊥) → (fault ≡ SayFault → ⊥) → settled E (origin_with b cs) ((entries ++ all_done events) ++ Idle event fault ∷ []) (engine new)
            → settled M b ((entries ++ all_done events) ++ Idle event fault ∷ []) new
        idle fault is no_disk no_say g = one_idle result cause cs entries events none mode d s f st event fault is no_disk no_say (told fault is) g

        said : result ≡ Err SayFault → IsCutShort E (origin_with b cs) entries events (engine new) ⊎ settled E (origin_with b cs) ((entries ++ all_done events) ++ Unsaid event ∷ []) (engine new)
            → IsCutShort M b entries events new ⊎ settled M b ((entries ++ all_done events) ++ Unsaid event ∷ []) new
        said is (inl cut) = inl (cut_short result cause cs entries events none mode d s f st is cut)
        said is (inr last) = inr (one_unsaid result cause cs entries events none mode d s f st is event last)

        go : (r : Result Outcome SwitchFault) → result ≡ r → AfterCall E (origin_with b cs) entries events event r (engine new) → AfterCall M b entries events event r new
        go (Ok answer) is g = one_more result cause cs entries events none mode d s f st answer is event g
        go (Err DiskFault) is g = in_doubt result cause cs entries events none mode d s f st is g
        go (Err SayFault) is g = said is g
        go (Err (Full used need limit)) is g = idle (Full used need limit) is (λ e. cc e) (λ e. cc e) g
        go (Err (Stopped by)) is g = idle (Stopped by) is (λ e. cc e) (λ e. cc e) g
        go (Err Spent) is g = g
        go (Err NoMemory) is g = idle NoMemory is (λ e. cc e) (λ e. cc e) g

    -- what settling leaves
    pub lift_settling : (result : Result (Unit {0}) SwitchFault) → HasCallCause result (disk_of old) (disk_of new) (say_of old) (say_of new)
        → (cs : List ℕ) (entries : List Entry) (events : List Event) → (b.makes_room ≡ false → cs ≡ []) → makes old ≡ b.makes_room → b.disk ≤ disk_of old → b.say ≤ say_of old
        → Facts b entries (disk_of old) (say_of old) → Still b entries (disk_of old) (say_of old)
        → AfterSettling E (origin_with b cs) entries events result (engine new) → AfterSettling M b entries events result new
    lift_settling result cause cs entries events none mode d s f st a = go result refl a
      where
        go : (r : Result (Unit {0}) SwitchFault) → result ≡ r → AfterSettling E (origin_with b cs) entries events r (engine new) → AfterSettling M b entries events r new
        go (Ok done) is g = all_settled result cause cs entries events none mode d s f st done is g
        go (Err DiskFault) is g = in_doubt result cause cs entries events none mode d s f st is g
        go (Err SayFault) is g = cut_short result cause cs entries events none mode d s f st is g
        go _ is g = g

    -- what a call leaves behind a compaction, which comes behind what was gathered
    pub compacted : (entries : List Entry) (events : List Event) (event : Event) (result : Result Outcome SwitchFault)
        → AfterCall M b (entries ++ all_done events) [] event result new → AfterHearing M b entries events event result new
    compacted entries events event result a = go result a
      where
        one : (front : List Entry) (more : List Event) → IsOneMore (entries ++ all_done events) [] event front more → IsOneMore entries events event front more
        one front more (Behind is same) = Alone is same
        one front more (Alone is same) = Alone (is ∙ append-nil (entries ++ all_done events)) same
        one front more (AtOnce is same) = AtOnce (is ∙ ap (λ (l : List Entry). l ++ Done event ∷ []) (append-nil (entries ++ all_done events))) same

        never : (before : List Event) (first : Event) (rest : List Event) → [] ≡ before ++ first ∷ rest → ⊥
        never [] first rest e = cc e
        never (x ∷ before) first rest e = cc e

        idle : (fault : SwitchFault) → settled M b (((entries ++ all_done events) ++ []) ++ Idle event fault ∷ []) new → settled M b ((entries ++ all_done events) ++ Idle event fault ∷ []) new
        idle fault g = subst (λ (l : List Entry). settled M b (l ++ Idle event fault ∷ []) new) (append-nil (entries ++ all_done events)) g

        said : IsCutShort M b (entries ++ all_done events) [] new ⊎ settled M b (((entries ++ all_done events) ++ []) ++ Unsaid event ∷ []) new
            → IsCutShort M b entries events new ⊎ settled M b ((entries ++ all_done events) ++ Unsaid event ∷ []) new
        said (inl cut) = absurd (never cut.before cut.first cut.rest cut.is)
        said (inr last) = inr (subst (λ (l : List Entry). settled M b (l ++ Unsaid event ∷ []) new) (append-nil (entries ++ all_done events)) last)

        go : (r : Result Outcome SwitchFault) → AfterCall M b (entries ++ all_done events) [] event r new → AfterHearing M b entries events event r new
        go (Ok answer) g = record { front = g.front; more = g.more; one = one g.front g.more g.one; gathers = g.gathers }
        go (Err DiskFault) g = absurd (g.some refl)
        go (Err SayFault) g = said g
        go (Err (Full used need limit)) g = idle (Full used need limit) g
        go (Err (Stopped by)) g = idle (Stopped by) g
        go (Err Spent) g = g
        go (Err NoMemory) g = idle NoMemory g

  -- ---- the calls

  facts_of : (b : Beginning) (entries : List Entry) (events : List Event) (w : W) → M.gathers b entries events w → Facts b entries (disk_of w) (say_of w)
  facts_of b entries events w g = record { cramped = g.0.cramped; disk_failed = g.0.disk_failed; say_failed = g.0.say_failed }

  still_of : (b : Beginning) (entries : List Entry) (events : List Event) (w : W) → M.gathers b entries events w → Still b entries (disk_of w) (say_of w)
  still_of b entries events w g = record { disk_still = g.0.disk_still; say_still = g.0.say_still }

  -- a cause, where fullness is told in other words
  cause_as : (F G : SwitchFault → Type 0) → ((fault : SwitchFault) → F fault → G fault) → (h : List Entry) (o : Outcome) (fault : SwitchFault) → IsAnswerCause F h o fault → IsAnswerCause G h o fault
  cause_as F G turns h o DiskFault c = c
  cause_as F G turns h o SayFault c = c
  cause_as F G turns h o (Full used need limit) c = turns (Full used need limit) c
  cause_as F G turns h o _ c = c

  -- a call that compacts nothing, for an event that is never accepted where room is made
  pub answered : (event : Event) (result : Result Outcome SwitchFault) (old new : W) → makes new ≡ makes old → HasCallCause result (disk_of old) (disk_of new) (say_of old) (say_of new)
      → (makes old ≡ true → (d : Directory) (s : State) → IsAccepted (outcome d s event) → ⊥)
      → IsAnswered E event result (engine old) (engine new) → IsAnswered M event result old new
  answered event result old new same cause never t = record {
    directory = t.directory;
    adds = λ b entries events g.
        let cs : List ℕ = g.0.compactions in
        let o : Origin = origin_with b cs in
        let all : List Entry = entries ++ all_done events in
        let d : Directory = b.origin.directory in
        let s : State = state_at b.origin all in
        lift_call b old new same event result cause cs entries events g.0.none g.1 g.0.disk_later g.0.say_later (facts_of b entries events old g) (still_of b entries events old g)
        (λ m used need limit is. absurd (never (g.1 ∙ m) d s
        (full_accepts d s (used_at o all) event (outcome d s event) (Full used need limit) (t.caused o entries events g.0.keeps (Full used need limit) is))))
        (t.adds o entries events g.0.keeps);
    outcome = λ b entries events g answer is. t.outcome (origin_with b g.0.compactions) entries events g.0.keeps answer is;
    caused = λ b entries events g fault is.
        let o : Origin = origin_with b g.0.compactions in
        let all : List Entry = entries ++ all_done events in
        cause_as (E.is_full o all event) (M.is_full b all event) (λ f e. (g.0.compactions, e)) all (outcome_at E (engine old) o all event) fault (t.caused o entries events g.0.keeps fault is);
  }

  -- a message for which room is made
  pub heard_with_room : (event : Event) (result : Result Outcome SwitchFault) (old new : W) → makes new ≡ makes old → HasCallCause result (disk_of old) (disk_of new) (say_of old) (say_of new)
      → makes old ≡ true → IsGatheredWithRoom station Caller event result (engine old) (engine new) → IsHeard M event result old new
  heard_with_room event result old new same cause made t = record {
    directory = t.directory;
    adds = λ b entries events g. adds b entries events g (t.adds (origin_with b g.0.compactions) entries events g.0.keeps);
    outcome = λ b entries events g answer is.
        let D : Directory → Type 0 = λ d. answer ≡ outcome d (after_all d (begun b.origin.start) (entries ++ all_done events)) event in
        subst D (sym g.0.keeps.directory) (t.outcome (origin_with b g.0.compactions) entries events g.0.keeps answer is);
    caused = λ b entries events g fault is.
        let o : Origin = origin_with b g.0.compactions in
        let all : List Entry = entries ++ all_done events in
        let C : Directory → Type 0 = λ d. IsAnswerCause (M.is_full b all event) all (outcome d (after_all d (begun b.origin.start) all) event) fault in
        subst C (sym g.0.keeps.directory)
        (cause_as (IsFullEither o all event) (M.is_full b all event) (λ f e. (g.0.compactions, e.0)) all (outcome_behind o all event) fault (t.caused o entries events g.0.keeps fault is));
  }
    where
      unmade : (b : Beginning) → makes old ≡ b.makes_room → (cs : List ℕ) → b.makes_room ≡ false → cs ≡ []
      unmade b mode cs isnt = absurd (let x : true ≡ false = sym made ∙ mode ∙ isnt in cc x)

      cramped : (b : Beginning) (entries : List Entry) (events : List Event) → M.gathers b entries events old → (used need limit : ℕ) → result ≡ Err (Full used need limit)
          → IsCrampedFor b (entries ++ all_done events) event
      cramped b entries events g used need limit is = (t.caused (origin_with b g.0.compactions) entries events g.0.keeps (Full used need limit) is).1

      adds : (b : Beginning) (entries : List Entry) (events : List Event) (g : M.gathers b entries events old)
          → GathersPlain station Caller (origin_with b g.0.compactions) entries events event result (engine new)
          ⊎ (GathersCompacted station Caller (origin_with b g.0.compactions) entries events event result (engine new)
          ⊎ GathersNone station Caller (origin_with b g.0.compactions) entries events event result (engine new))
          → AfterHearing M b entries events event result new
      adds b entries events g (inl plain) =
          as_hearing M b entries events event result new
          (lift_call b old new same event result cause g.0.compactions entries events g.0.none g.1 g.0.disk_later g.0.say_later (facts_of b entries events old g) (still_of b entries events old g)
          (λ m used need limit is. cramped b entries events g used need limit is) plain.leaves)
      adds b entries events g (inr (inl behind)) =
          let all : List Entry = entries ++ all_done events in
          let cs : List ℕ = g.0.compactions ++ length all ∷ [] in
          compacted b old new same entries events event result
          (lift_call b old new same event result cause cs all [] (unmade b g.1 cs) g.1 g.0.disk_later g.0.say_later
          (facts_done b entries events (disk_of old) (say_of old) (facts_of b entries events old g)) (still_done b entries events (disk_of old) (say_of old) (still_of b entries events old g))
          (λ m used need limit is. subst (λ (l : List Entry). IsCrampedFor b l event) (sym (append-nil all)) (cramped b entries events g used need limit is)) behind.leaves)
      adds b entries events g (inr (inr none)) =
          subst (λ (r : Result Outcome SwitchFault). AfterHearing M b entries events event r new) (sym none.fault)
          (inr (doubt_alone b old new same result cause g.0.compactions entries events g.0.none g.1 g.0.disk_later g.0.say_later (facts_of b entries events old g) (still_of b entries events old g) none.fault event none.keeps))

  -- settling
  pub settles : (result : Result (Unit {0}) SwitchFault) (old new : W) → makes new ≡ makes old → HasCallCause result (disk_of old) (disk_of new) (say_of old) (say_of new)
      → IsSettling E result (engine old) (engine new) → IsSettling M result old new
  settles result old new same cause t = record {
    directory = t.directory;
    settles = λ b entries events g.
        lift_settling b old new same result cause g.0.compactions entries events g.0.none g.1 g.0.disk_later g.0.say_later (facts_of b entries events old g) (still_of b entries events old g)
        (t.settles (origin_with b g.0.compactions) entries events g.0.keeps);
    rests = λ b h g.
        let r = t.rests (origin_with b g.0.compactions) h g.0.keeps in (
          r.0,
          gathered b old new same g.0.compactions h [] g.0.none g.1 (omega (arith, g.0.disk_later, cause.disk_later)) (omega (arith, g.0.say_later, cause.say_later))
              (facts_later b h (disk_of old) (disk_of new) (say_of old) (say_of new) cause.disk_later cause.say_later (facts_of b h [] old g))
              (still_now b h h result (disk_of old) (disk_of new) (say_of old) (say_of new) cause (still_of b h [] old g) (told_same b h result (Ok tt) r.0 (λ e. cc e) (λ e. cc e))) r.1,
        );
  }
