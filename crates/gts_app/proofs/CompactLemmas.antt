-- What `compact` comes to, from the opening and the engine's compaction.
use Rattle.gts_app.proofs.Cited.{◌≡◌, ◌≤◌, ℕ, false, List, [], ◌∷◌, ◌++◌, Result, Ok, Err, IfErr, OnOk, Option, Some, None, IsTrue, inl, inr, refl, sym, ap, subst, ◌∙◌, arith, append-nil, Call, Compacts, Device, Did, DiskFault, Done, EachSince, Engine, Full, Ghosts as StationMeanings, GivesRoom, HasCallCause, HasSaid, Holds, IsCompactFault, IsCompacted, IsCompaction, IsIdleFault, IsRefusal, IsRewritten, IsTooLarge, Keeps, Need, NoMemory, OpenFault, Opens, OpensAsBefore, OpensWith, Over, Rose, SourceMeanings, State, Status, StaysAt, StaysThere, SwitchFault, Syncs, begun, checkpoint_file, compacted_after, compacted_size, directory_of_bytes, full_compacted, handed, is_sound, need, opens, origin_of, said_by, seen, selected, shown, status_compacted, switch_meanings, syncs_silent as only_synced_says}
use Rattle.gts_directory.specs.Directory as directories
use Rattle.gts_event.specs.declared.fault.SwitchFault.TheVariants as switch
use Rattle.gts_engine.specs.declared.mode.SayMode.TheVariants as mode
use Rattle.gts_app.proofs.UnreadLemmas.{same_directory}
use Rattle.gts_app.proofs.RefusalLemmas.{fault_answered, lacks_memory, memory_alone, none_answered}
use Rattle.gts_app.proofs.EndLemmas.{none_gathered}
use Rattle.gts_app.proofs.ShowLemmas.{goes_on}

-- ---- what refused it

pub not_compacted : {S P : Type 0} (source : SourceMeanings S) (w : StationMeanings P) (status : Status) (od nd : S) (old new : P)
    → Opens source w (Err (handed status new)) od nd old → Compacts source w status od old nd new
not_compacted source w status od nd old new h =
    let r = h.refused status new refl in
    let ends : IsRefusal status = r.ends in
    record {
      done = λ of. absurd (subst IsRefusal of ends);
      full = λ used wanted limit of. absurd (subst IsRefusal of ends);
      refused = λ _. inl r;
      disk_fault = r.disk_fault;
      ends = inl ends;
      silent = λ observed told. only_synced_says (w.calls old) (w.calls new) (r.only_syncs told);
      complete = λ observed told d n read opened kept_directory kept_disk room. inr (memory_alone source w status od nd old new r observed told d n read opened kept_directory kept_disk);
      answered = fault_answered source w status od nd old new r;
      taken = h.taken;
      counts = (h.later, r.later, omega (arith, r.say));
    }

-- ---- the engine was opened

module _ {S P : Type 0} (source : SourceMeanings S) (w : StationMeanings P) (od nd : S) (old : P) (e : Engine P)
    (h : Opens source w (Ok e) od nd old)
    (starts : (d : directories.Directory) (n : Need) → IsTrue (is_sound d n) → need d (begun n) ≡ n) where
  -- what is known of it where its station is observed
  record Known : Type 0 where
    told : w.observed
    n : Need
    read : source.observed → directory_of_bytes (source.left od) ≡ Ok e.directory
    opened : opens e.directory (seen (w.calls old)) ≡ Ok n
    synced : w.calls e.station ≡ Did Syncs ∷ w.calls old
    keeps : Keeps w.observed mode.Station (origin_of w.calls e n) [] (shown w.calls e)
    same : need e.directory (begun n) ≡ n

  known : w.observed → Known
  known told =
      let x = h.opened e refl told in
      record { told = told; n = x.0; read = x.1; opened = x.2.0.opened; synced = x.2.0.synced; keeps = none_gathered (switch_meanings w) (record { told = told; origin = origin_of w.calls e x.0 }) e x.2.1.stands; same = starts e.directory x.0 x.2.0.sound }

  going : (k : Known) → e.stopped ≡ None
  going k = goes_on e.stopped k.keeps.failed

  holds : (k : Known) → Holds e.directory e.core (begun k.n)
  holds k = k.keeps.core (going k)

  over : (new : P) (OfIt : directories.Directory → Need → Type 0) → ((k : Known) → OfIt e.directory k.n) → Over source w od old OfIt
  over new OfIt of observed told = let k = known told in (e.directory, k.n, k.read observed, k.opened, of k)

  -- nothing was changed for want of memory
  without_memory : Compacts source w NoMemory od old nd e.station
  without_memory = record {
    done = λ of. absurd (cc);
    full = λ used wanted limit of. absurd (cc);
    refused = λ _. inl (lacks_memory source w od nd old e h);
    disk_fault = λ of. absurd (cc);
    ends = inl tt;
    silent = λ observed told. ap said_by (known told).synced;
    complete = λ observed told d n read opened kept_directory kept_disk room. inr refl;
    answered = λ observed told d fault read opened kept_directory kept_disk. inr refl;
    taken = h.taken;
    counts = (h.later, omega (arith, (h.kept e refl).0), omega (arith, (h.kept e refl).1));
  }

  module _ (r : Result (Unit {0}) SwitchFault) (new : Engine P) (compaction : IsCompaction w r e new)
      (moments : w.observed → e.stopped ≡ None → StaysAt e.directory e.core (w.calls e.station) (w.calls new.station))
      (written : w.observed → OnOk r ((s : State) → Holds e.directory e.core s → IsRewritten e.directory s (w.calls e.station) (w.calls new.station) new.used))
      (room : (s : State) → e.stopped ≡ None → Holds e.directory e.core s → GivesRoom r e.directory s)
      (kind : IfErr r IsCompactFault) (unchanged : IsIdleFault r → new ≡ e)
      (cause : HasCallCause r (w.disk_faults e.station) (w.disk_faults new.station) (w.say_faults e.station) (w.say_faults new.station))
      (files : w.observed → new.stopped ≡ None → new.gathered ≡ false → OpensWith new.directory (seen (w.calls new.station)) new.used) where
    stays : (k : Known) → StaysThere e.directory k.n (w.calls old) (w.calls new.station)
    stays k =
        subst (λ (calls : List Call). EachSince calls (w.calls new.station) (OpensAsBefore e.directory (begun k.n))) k.synced
        (moments k.told (going k) (begun k.n) (holds k))

    -- what was said before is all that was said
    silent : (k : Known) → said_by (w.calls new.station) ≡ said_by (w.calls e.station) ++ [] → said_by (w.calls new.station) ≡ said_by (w.calls old)
    silent k said = said ∙ append-nil (said_by (w.calls e.station)) ∙ ap said_by k.synced

    disk_later : w.disk_faults old ≤ w.disk_faults new.station
    disk_later = omega (arith, (h.kept e refl).0, cause.disk_later)

    say_later : w.say_faults old ≤ w.say_faults new.station
    say_later = omega (arith, (h.kept e refl).1, cause.say_later)

    -- it goes on behind a checkpoint of all that it stood for
    after : (k : Known) → r ≡ Ok tt → Keeps w.observed mode.Station (compacted_after (origin_of w.calls e k.n) []) [] (shown w.calls new)
    after k ok = compaction.done ok mode.Station (origin_of w.calls e k.n) [] k.keeps

    compacted : (k : Known) → r ≡ Ok tt → IsCompacted e.directory k.n (w.calls old) (w.calls new.station)
    compacted k ok =
        let rewritten = subst (λ (x : Result (Unit {0}) SwitchFault). OnOk x ((s : State) → Holds e.directory e.core s
        → IsRewritten e.directory s (w.calls e.station) (w.calls new.station) new.used)) ok (written k.told) (begun k.n) (holds k) in
        let goes : new.stopped ≡ None = goes_on new.stopped (after k ok).failed in
        let free : full_compacted e.directory (begun k.n) ≡ None = subst (λ (x : Result (Unit {0}) SwitchFault). GivesRoom x e.directory (begun k.n)) ok (room (begun k.n) (going k) (holds k)) in
        record {
          other = λ same. rewritten.other (same ∙ ap (λ (calls : List Call). selected (seen calls)) (sym k.synced));
          stays = subst (λ (calls : List Call). seen (w.calls new.station) (selected (seen calls)) ≡ seen calls (selected (seen calls)))
              k.synced rewritten.stays;
          text = rewritten.text ∙ ap (λ (m : Need). checkpoint_file e.directory.mark m) k.same;
          used = subst (λ (d : directories.Directory). OpensWith d (seen (w.calls new.station)) (compacted_size k.n)) compaction.directory
              (subst (λ (used : ℕ). OpensWith new.directory (seen (w.calls new.station)) used) (rewritten.size ∙ ap compacted_size k.same) (files k.told goes (after k ok).gathered));
          room = free;
          moments = stays k;
        }

    by_done : r ≡ Ok tt → Compacts source w Done od old nd new.station
    by_done ok = record {
      done = λ of. over new.station (λ d n. IsCompacted d n (w.calls old) (w.calls new.station)) (λ k. compacted k ok);
      full = λ used wanted limit of. absurd (cc);
      refused = λ ends. absurd ends;
      disk_fault = λ of. absurd (cc);
      ends = inr tt;
      silent = λ observed told. let k = known told in
          let goes : new.stopped ≡ None = goes_on new.stopped (after k ok).failed in
          silent k (subst (λ (stopped : Option Device). HasSaid mode.Station (compacted_after (origin_of w.calls e k.n) []) [] stopped (w.calls new.station)) goes ((after k ok).leaves told).said);
      complete = λ observed told d n read opened kept_directory kept_disk free. inl refl;
      answered = none_answered source w od nd old e h _ new.station;
      taken = h.taken;
      counts = (h.later, disk_later, say_later);
    }

    by_disk : r ≡ Err switch.DiskFault → Compacts source w DiskFault od old nd new.station
    by_disk failed =
        let rose : Rose (w.disk_faults old) (w.disk_faults new.station) =
        let here = subst (λ (x : Result (Unit {0}) SwitchFault). HasCallCause x (w.disk_faults e.station) (w.disk_faults new.station) (w.say_faults e.station) (w.say_faults new.station)) failed cause in
        omega (arith, (h.kept e refl).0, here.disk_failed refl) in
        record {
          done = λ of. absurd (cc);
          full = λ used wanted limit of. absurd (cc);
          refused = λ _. inr (refl, over new.station (λ d n. StaysThere d n (w.calls old) (w.calls new.station)) stays);
          disk_fault = λ of. rose;
          ends = inl tt;
          silent = λ observed told. let k = known told in
              silent k ((compaction.failed failed mode.Station (origin_of w.calls e k.n) [] k.keeps).leaves told).said;
          complete = λ observed told d n read opened kept_directory kept_disk free. absurd (kept_disk rose);
          answered = none_answered source w od nd old e h _ new.station;
          taken = h.taken;
          counts = (h.later, disk_later, say_later);
        }

    by_room : (used wanted limit : ℕ) → r ≡ Err (switch.Full used wanted limit) → Compacts source w (Full used wanted limit) od old nd new.station
    by_room used wanted limit full =
        let idle : new ≡ e = unchanged (subst IsIdleFault (sym full) tt) in
        let calls_are : (k : Known) → w.calls new.station ≡ Did Syncs ∷ w.calls old = λ k. ap (λ (x : Engine P). w.calls x.station) idle ∙ k.synced in
        let sum : (k : Known) → GivesRoom (Err (switch.Full used wanted limit)) e.directory (begun k.n) =
        λ k. subst (λ (x : Result (Unit {0}) SwitchFault). GivesRoom x e.directory (begun k.n)) full (room (begun k.n) (going k) (holds k)) in
        record {
          done = λ of. absurd (cc);
          full = λ a b c of.
              let one : used ≡ a = cc in
              let two : wanted ≡ b = cc in
              let three : limit ≡ c = cc in
              subst (λ (x : ℕ). Over source w od old (λ d n. IsTooLarge d n x b c (w.calls old) (w.calls new.station))) one
              (subst (λ (x : ℕ). Over source w od old (λ d n. IsTooLarge d n used x c (w.calls old) (w.calls new.station))) two
              (subst (λ (x : ℕ). Over source w od old (λ d n. IsTooLarge d n used wanted x (w.calls old) (w.calls new.station))) three
              (over new.station (λ d n. IsTooLarge d n used wanted limit (w.calls old) (w.calls new.station)) (λ k. record { sum = sum k; synced = calls_are k }))));
          refused = λ ends. absurd ends;
          disk_fault = λ of. absurd (cc);
          ends = inr tt;
          silent = λ observed told. ap said_by (calls_are (known told));
          complete = λ observed told d n read opened kept_directory kept_disk free.
              let k = known told in
              let same : d ≡ e.directory = same_directory d e.directory (directory_of_bytes (source.left od)) read (k.read observed) in
              let one : n ≡ k.n = one_need n k.n (opens d (seen (w.calls old))) opened (subst (λ (y : directories.Directory). opens y (seen (w.calls old)) ≡ Ok k.n) (sym same) k.opened) in
              let none : full_compacted e.directory (begun k.n) ≡ None = subst (λ (m : Need). full_compacted e.directory (begun m) ≡ None) one (subst (λ (y : directories.Directory). full_compacted y (begun n) ≡ None) same free) in
              absurd (found_none (full_compacted e.directory (begun k.n)) (switch.Full 42 (sum k).0 limit) none (sum k).1);
          answered = none_answered source w od nd old e h _ new.station;
          taken = h.taken;
          counts = (h.later, disk_later, say_later);
        }
      where
        one_need : (a b : Need) (opened : Result Need OpenFault) → opened ≡ Ok a → opened ≡ Ok b → a ≡ b
        one_need a b opened one other = cc

        found_none : (found : Option SwitchFault) (fault : SwitchFault) → found ≡ None → found ≡ Some fault → ⊥
        found_none found fault one other = cc

    by_memory : IsIdleFault r → Compacts source w NoMemory od old nd new.station
    by_memory idle = subst (λ (x : Engine P). Compacts source w NoMemory od old nd x.station) (sym (unchanged idle)) without_memory

    ends_by : (x : Result (Unit {0}) SwitchFault) → r ≡ x → IfErr x IsCompactFault → Compacts source w (status_compacted x) od old nd new.station
    ends_by (Ok u) same kinds = by_done same
    ends_by (Err switch.DiskFault) same kinds = by_disk same
    ends_by (Err (switch.Full used wanted limit)) same kinds = by_room used wanted limit same
    ends_by (Err (switch.Stopped by)) same kinds = by_memory (subst IsIdleFault (sym same) tt)
    ends_by (Err switch.NoMemory) same kinds = by_memory (subst IsIdleFault (sym same) tt)
    ends_by _ same kinds = absurd kinds

    pub compacts : (at : P) → at ≡ new.station → Compacts source w (status_compacted r) od old nd at
    compacts at same = subst (λ (p : P). Compacts source w (status_compacted r) od old nd p) (sym same) (ends_by r refl kind)
