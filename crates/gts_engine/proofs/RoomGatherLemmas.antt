-- Room is made for a bulletin that may be gathered.
use Rattle.gts_engine.proofs.Cited.{◌≡◌, inl, inr, ℕ, Bool, true, false, List, [], ◌∷◌, ◌++◌, Some, None, Result, Ok, Err, refl, sym, ap, subst, ◌∙◌, IsOk, IsSome, IfSome, is_ok, append-nil, Directory, Disk, DiskFault, Engine, Entry, Event, Full, Gathers, GivesRoom, HadRoomFor, HasOnlySettled, Heard, Holds, Idle, IsAccepted, IsAnswerCause, IsAnswered, IsCompactFault, IsCompaction, IsFullCompacted, IsFullEither, IsGatheredWithRoom, IsIdleFault, Keeps, Kind, NoMemory, Origin, Outcome, Say, SayFault, SayMode, Spent, Standing, State, StationMeanings, Stopped, SwitchFault, TellsSpare, after_all, all_done, begun, bytes_wanted, compacted_after, full, meanings_of, outcome, shown, state_at, state_behind, stopped_after, used_at}
use Rattle.gts_engine.proofs.MarkedLemmas.{state_behind_marked, used_marked}
use Rattle.gts_engine.proofs.TurnLemmas.{idle}
use Rattle.gts_engine.proofs.CompactingLemmas.{used_compacted}
use Rattle.gts_engine.proofs.RoomingLemmas.{full_accepted, pays, fits_compacted, holds_due, cramped, doubt_left, full_is, recorded, went_on}

module _ {P : Type 0} (station : StationMeanings P) (mode : SayMode) (c : ℕ) (kind : Kind) (message : List ℕ) where
  abbrev heard : Event
  heard = Heard c kind message

  abbrev meanings : Standing Origin (Engine P)
  meanings = meanings_of station mode

  -- a cause that isn't want of room
  other_cause : (F G : SwitchFault → Type 0) (h : List Entry) (o : Outcome) (fault : SwitchFault) → ((used need limit : ℕ) → fault ≡ Full used need limit → ⊥) → IsAnswerCause F h o fault → IsAnswerCause G h o fault
  other_cause F G h o DiskFault other cause = tt
  other_cause F G h o SayFault other cause = tt
  other_cause F G h o (Full used need limit) other cause = absurd (other used need limit refl)
  other_cause F G h o (Stopped Disk) other cause = cause
  other_cause F G h o (Stopped Say) other cause = cause
  other_cause F G h o Spent other cause = absurd cause
  other_cause F G h o NoMemory other cause = cause

  module _ (o : Origin) (h : List Entry) where
    -- from so many bytes on the journal is full for it, with this fault
    abbrev is_full_at : ℕ → SwitchFault → Type 0
    is_full_at at fault = full o.directory (state_at o h) at heard ≡ Some fault

    -- in the words of the origin
    outcome_in : (e : Engine P) → e.directory ≡ o.directory → outcome e.directory (after_all e.directory (begun o.start) h) heard ≡ outcome o.directory (state_at o h) heard
    outcome_in e same = ap (λ (d : Directory). outcome d (after_all d (begun o.start) h) heard) same

    cause_in : (F : SwitchFault → Type 0) (e : Engine P) (fault : SwitchFault) → e.directory ≡ o.directory
        → IsAnswerCause F h (outcome e.directory (after_all e.directory (begun o.start) h) heard) fault → IsAnswerCause F h (outcome o.directory (state_at o h) heard) fault
    cause_in F e fault same cause = subst (λ (x : Outcome). IsAnswerCause F h x fault) (outcome_in e same) cause

  -- what was answered stands, but for want of room
  pub gathers_plain : (result : Result Outcome SwitchFault) (old new : Engine P) → IsAnswered meanings heard result old new → HadRoomFor old heard result
      → IfSome old.stopped (λ by. (result ≡ Err (Stopped by)) × (new ≡ old)) → bytes_wanted result ≡ None → IsGatheredWithRoom station mode heard result old new
  gathers_plain result old new called had stopped other = record {
    directory = called.directory;
    adds = λ o entries events kept. inl (record { leaves = called.adds o entries events kept; had_room = λ ok. roomy o entries events kept ok });
    outcome = λ o entries events kept answer e. called.outcome o entries events kept answer e ∙ outcome_in o (entries ++ all_done events) old kept.directory;
    caused = λ o entries events kept fault e.
        let h : List Entry = entries ++ all_done events in
        other_cause (is_full_at o h (used_at o h)) (IsFullEither o h heard) h (outcome o.directory (state_at o h) heard) fault
        (λ used need limit is. absurd (let x : Some need ≡ None = sym (ap bytes_wanted (e ∙ ap {A = SwitchFault} (λ f. Err f) is)) ∙ other in cc x))
        (cause_in o h (is_full_at o h (used_at o h)) old fault kept.directory (called.caused o entries events kept fault e));
  }
    where
      not_stopped : IsOk result → old.stopped ≡ None
      not_stopped ok = went_on (new ≡ old) result old.stopped stopped (λ by e. let x : false ≡ true = sym (ap is_ok e) ∙ ok in absurd (cc x))

      roomy : (o : Origin) (entries : List Entry) (events : List Event) → Gathers station.observed mode o entries events (shown station.calls old) → IsOk result
          → full o.directory (state_at o (entries ++ all_done events)) (used_at o (entries ++ all_done events)) heard ≡ None
      roomy o entries events kept ok =
          let h : List Entry = entries ++ all_done events in
          let s : State = state_behind o entries events in
          let holds = kept.core (not_stopped ok) in
          let D : Directory → Type 0 = λ d. Holds d old.core s in
          let F : Directory → Type 0 = λ d. full d s old.used heard ≡ None in
          let U : ℕ → Type 0 = λ n. full o.directory s n heard ≡ None in
          let S : State → Type 0 = λ t. full o.directory t (used_at o h) heard ≡ None in
          subst S (sym (state_behind_marked true o entries events))
          (subst U (kept.used (not_stopped ok) ∙ sym (used_marked true o entries events holds.keeps kept.anchors))
          (subst F kept.directory (had ok s (subst D (sym kept.directory) holds))))

  -- ---- the journal was full

  module _ (first : Result Outcome SwitchFault) (bytes : ℕ) (wanted : bytes_wanted first ≡ Some bytes) (old mid : Engine P) (called : IsAnswered meanings heard first old mid)
      (stopped : IfSome old.stopped (λ by. (first ≡ Err (Stopped by)) × (mid ≡ old))) (stops : mid.stopped ≡ stopped_after old.stopped first) (settles : HasOnlySettled station old mid) where
    abbrev used_then : ℕ
    used_then = (full_is first bytes wanted).0

    abbrev limit_then : ℕ
    limit_then = (full_is first bytes wanted).1

    first_is : first ≡ Err (Full used_then bytes limit_then)
    first_is = (full_is first bytes wanted).2

    going : old.stopped ≡ None
    going = went_on (mid ≡ old) first old.stopped stopped (λ by e. let x : ◌≡◌ {A = Result Outcome SwitchFault} (Err (Full used_then bytes limit_then)) (Err (Stopped by)) = sym first_is ∙ e in cc x)

    pub going_settled : mid.stopped ≡ None
    going_settled = stops ∙ ap (stopped_after old.stopped) first_is ∙ going

    directory_mid : mid.directory ≡ old.directory
    directory_mid = (settles.settling mode).directory

    module _ (o : Origin) (entries : List Entry) (events : List Event) (kept : Gathers station.observed mode o entries events (shown station.calls old)) where
      abbrev h : List Entry
      h = entries ++ all_done events

      kept_mid : Keeps station.observed mode o h (shown station.calls mid)
      kept_mid = (settles.settling mode).settles o entries events kept

      was_full : full o.directory (state_at o h) (used_at o h) heard ≡ Some (Full used_then bytes limit_then)
      was_full = called.caused o entries events kept (Full used_then bytes limit_then) first_is

      holds_mid : Holds mid.directory mid.core (state_at o h)
      holds_mid =
          let D : Directory → Type 0 = λ d. Holds d mid.core (state_at o h) in
          subst D (sym kept_mid.directory) (kept_mid.core going_settled)

      accepted : IsAccepted (outcome o.directory (state_at o h) heard)
      accepted = full_accepted o.directory (state_at o h) c kind message (used_at o h) (Full used_then bytes limit_then) was_full

      -- memory was wanted for the size of a compacted journal, or for the compaction
      memory_keeps : (e : Engine P) → e ≡ mid → Keeps station.observed mode o (h ++ Idle heard NoMemory ∷ []) (shown station.calls e)
      memory_keeps e is =
          subst (λ (x : Engine P). Keeps station.observed mode o (h ++ Idle heard NoMemory ∷ []) (shown station.calls x)) (sym is)
          (idle mode o h heard station.observed NoMemory (shown station.calls mid) accepted kept_mid)

    -- there was no memory
    pub gathers_nothing : (e : Engine P) → e ≡ mid → IsGatheredWithRoom station mode heard (Err NoMemory) old e
    gathers_nothing e is = record {
      directory = ap (λ (x : Engine P). x.directory) is ∙ directory_mid;
      adds = λ o entries events kept. inl (record { leaves = memory_keeps o entries events kept e is; had_room = λ ok. absurd (cc ok) });
      outcome = λ o entries events kept answer a. absurd (cc a);
      caused = λ o entries events kept fault f.
          let l : List Entry = entries ++ all_done events in
          let same_fault : NoMemory ≡ fault = cc f in
          subst (IsAnswerCause (IsFullEither o l heard) l (outcome o.directory (state_at o l) heard)) same_fault (accepted o entries events kept);
    }

    module _ (has : Bool) (spares : (s : State) → Holds mid.directory mid.core s → TellsSpare has mid.directory s bytes) where
      spare_at : (o : Origin) (entries : List Entry) (events : List Event) → Gathers station.observed mode o entries events (shown station.calls old) → TellsSpare has o.directory (state_at o (entries ++ all_done events)) bytes
      spare_at o entries events kept =
          let T : Directory → Type 0 = λ d. TellsSpare has d (state_at o (entries ++ all_done events)) bytes in
          subst T (kept_mid o entries events kept).directory (spares (state_at o (entries ++ all_done events)) (holds_mid o entries events kept))

      -- a compacted journal would be full, too
      pub gathers_full : has ≡ false → IsGatheredWithRoom station mode heard first old mid
      gathers_full is = record {
        directory = called.directory;
        adds = λ o entries events kept. inl (record {
          leaves = called.adds o entries events kept;
          had_room = λ ok. absurd (let x : false ≡ true = sym (ap is_ok first_is) ∙ ok in cc x);
        });
        outcome = λ o entries events kept answer e. called.outcome o entries events kept answer e ∙ outcome_in o (entries ++ all_done events) old kept.directory;
        caused = λ o entries events kept fault e.
            let l : List Entry = entries ++ all_done events in
            let same_fault : Full used_then bytes limit_then ≡ fault =
            (let x : ◌≡◌ {A = Result Outcome SwitchFault} (Err (Full used_then bytes limit_then)) (Err fault) = sym first_is ∙ e in cc x) in
            let T : Bool → Type 0 = λ b. TellsSpare b o.directory (state_at o l) bytes in
            let full_here = was_full o entries events kept in
            subst (IsAnswerCause (IsFullEither o l heard) l (outcome o.directory (state_at o l) heard)) same_fault
            (full_here, cramped o.directory (state_at o l) c kind message (used_at o l) used_then bytes limit_then full_here (subst T is (spare_at o entries events kept)));
      }

      module _ (roomy : has ≡ true) where
        spare_there : (o : Origin) (entries : List Entry) (events : List Event) → Gathers station.observed mode o entries events (shown station.calls old) → TellsSpare true o.directory (state_at o (entries ++ all_done events)) bytes
        spare_there o entries events kept =
            let T : Bool → Type 0 = λ b. TellsSpare b o.directory (state_at o (entries ++ all_done events)) bytes in
            subst T roomy (spare_at o entries events kept)

        -- the compaction failed
        pub gathers_left : (fault : SwitchFault) (last : Engine P) → IsCompaction station (Err fault) mid last
            → ((s : State) → mid.stopped ≡ None → Holds mid.directory mid.core s → GivesRoom (Err fault) mid.directory s)
            → IsCompactFault fault → (IsIdleFault (Err fault) → last ≡ mid) → IsGatheredWithRoom station mode heard (Err fault) old last
        gathers_left NoMemory last comp room may same = gathers_nothing last (same tt)
        gathers_left SayFault last comp room may same = absurd may
        gathers_left Spent last comp room may same = absurd may
        gathers_left (Stopped by) last comp room may same = record {
          directory = comp.directory ∙ directory_mid;
          adds = λ o entries events kept. absurd (room (state_at o (entries ++ all_done events)) going_settled (holds_mid o entries events kept));
          outcome = λ o entries events kept answer a. absurd (cc a);
          caused = λ o entries events kept. absurd (room (state_at o (entries ++ all_done events)) going_settled (holds_mid o entries events kept));
        }
        gathers_left (Full at more limit) last comp room may same = record {
          directory = comp.directory ∙ directory_mid;
          adds = λ o entries events kept. absurd (never o entries events kept);
          outcome = λ o entries events kept answer a. absurd (cc a);
          caused = λ o entries events kept. absurd (never o entries events kept);
        }
          where
            never : (o : Origin) (entries : List Entry) (events : List Event) → Gathers station.observed mode o entries events (shown station.calls old) → ⊥
            never o entries events kept =
                let l : List Entry = entries ++ all_done events in
                let F : Directory → Type 0 = λ d. IsFullCompacted d (state_at o l) (Full at more limit) in
                let over = subst F (kept_mid o entries events kept).directory (room (state_at o l) going_settled (holds_mid o entries events kept)) in
                let free = holds_due o.directory (state_at o l) c kind message (used_at o l) used_then bytes limit_then (was_full o entries events kept) (spare_there o entries events kept) in
                let x : None ≡ Some (Full 42 over.0 limit) = sym free ∙ over.1 in cc x
        gathers_left DiskFault last comp room may same = record {
          directory = comp.directory ∙ directory_mid;
          adds = λ o entries events kept.
              let l : List Entry = entries ++ all_done events in
              let at = kept_mid o entries events kept in
              inr (inr (record {
                fault = refl;
                keeps = doubt_left station.observed mode o l heard (shown station.calls mid) (shown station.calls last) at (comp.failed refl mode o l at) (recorded (outcome o.directory (state_at o l) heard) (accepted o entries events kept));
              }));
          outcome = λ o entries events kept answer a. absurd (cc a);
          caused = λ o entries events kept fault f.
              let l : List Entry = entries ++ all_done events in
              let same_fault : DiskFault ≡ fault = cc f in
              subst (IsAnswerCause (IsFullEither o l heard) l (outcome o.directory (state_at o l) heard)) same_fault tt;
        }

        -- it was done, and the message heard
        pub gathers_made : (last : Engine P) (result : Result Outcome SwitchFault) (new : Engine P) → IsCompaction station (Ok tt) mid last
            → IsAnswered meanings heard result last new → IsGatheredWithRoom station mode heard result old new
        gathers_made last result new comp then = record {
          directory = then.directory ∙ comp.directory ∙ directory_mid;
          adds = λ o entries events kept.
              let l : List Entry = entries ++ all_done events in
              let full_here = was_full o entries events kept in
              inr (inl (record {
                leaves = then.adds (compacted_after o l) l [] (kept_last o entries events kept);
                was_full = subst IsSome (sym full_here) refl;
                has_room = pays o.directory (state_at o l) c kind message (used_at o l) used_then bytes limit_then full_here (spare_there o entries events kept);
              }));
          outcome = λ o entries events kept answer e.
              let l : List Entry = entries ++ all_done events in
              let last_kept = kept_last o entries events kept in
              let A : List Entry → Type 0 = λ x. answer ≡ outcome o.directory (state_at o x) heard in
              subst A (append-nil l) (then.outcome (compacted_after o l) l [] last_kept answer e ∙ outcome_in (compacted_after o l) (l ++ []) last last_kept.directory);
          caused = λ o entries events kept fault e.
              let l : List Entry = entries ++ all_done events in
              other_cause (is_full_at (compacted_after o l) l (used_at (compacted_after o l) l)) (IsFullEither o l heard) l (outcome o.directory (state_at o l) heard) fault
              (λ used need limit is. never o entries events kept fault e used need limit is) (cause_last o entries events kept fault e);
        }
          where
            kept_last : (o : Origin) (entries : List Entry) (events : List Event) → Gathers station.observed mode o entries events (shown station.calls old)
                → Keeps station.observed mode (compacted_after o (entries ++ all_done events)) (entries ++ all_done events) (shown station.calls last)
            kept_last o entries events kept = comp.done refl mode o (entries ++ all_done events) (kept_mid o entries events kept)

            cause_last : (o : Origin) (entries : List Entry) (events : List Event) → Gathers station.observed mode o entries events (shown station.calls old) → (fault : SwitchFault) → result ≡ Err fault
                → let l : List Entry = entries ++ all_done events in
                IsAnswerCause (is_full_at (compacted_after o l) l (used_at (compacted_after o l) l)) l (outcome o.directory (state_at o l) heard) fault
            cause_last o entries events kept fault e =
                let l : List Entry = entries ++ all_done events in
                let p : Origin = compacted_after o l in
                let last_kept = kept_last o entries events kept in
                let C : List Entry → Type 0 = λ x. IsAnswerCause (is_full_at p x (used_at p x)) x (outcome o.directory (state_at o x) heard) fault in
                subst C (append-nil l) (cause_in p (l ++ []) (is_full_at p (l ++ []) (used_at p (l ++ []))) last fault last_kept.directory (then.caused p l [] last_kept fault e))

            never : (o : Origin) (entries : List Entry) (events : List Event) → Gathers station.observed mode o entries events (shown station.calls old) → (fault : SwitchFault) → result ≡ Err fault → (used need limit : ℕ) → fault ≡ Full used need limit → ⊥
            never o entries events kept fault e used need limit is =
                let l : List Entry = entries ++ all_done events in
                let p : Origin = compacted_after o l in
                let C : SwitchFault → Type 0 = λ f. IsAnswerCause (is_full_at p l (used_at p l)) l (outcome o.directory (state_at o l) heard) f in
                let cause : full o.directory (state_at o l) (used_at p l) heard ≡ Some (Full used need limit) = subst C is (cause_last o entries events kept fault e) in
                let free = fits_compacted o.directory (state_at o l) c kind message (used_at o l) used_then bytes limit_then (was_full o entries events kept) (spare_there o entries events kept) in
                let x : None ≡ Some (Full used need limit) = sym free ∙ ap (λ (n : ℕ). full o.directory (state_at o l) n heard) (sym (used_compacted o l)) ∙ cause in cc x
