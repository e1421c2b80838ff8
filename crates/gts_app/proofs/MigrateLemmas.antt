-- What `migrate` comes to: where a directory is refused, where a row doesn't stay, and behind the opening of the journal.
use Rattle.gts_app.proofs.Cited.{◌≡◌, ◌≤◌, ◌⊎◌, ℕ, List, [], ◌∷◌, Option, None, Some, Result, Ok, Err, inl, inr, refl, sym, ap, subst, arith, OnOk, AnswersOpening, AnswersWaiting, AreRead, Call, Change, Changed, Closed, CountsSays, Did, Directory, Done, Dropped, EachSince, Files, Ghosts as StationMeanings, GivesRoomFor, IsBegunUnder, IsCalm, IsDiskFaultOf, IsMigrated, IsOldReadEnd, IsReadEnd, IsRefusedBy, IsSayFaultOf, LeavesFiles, LeavesJournal, MayGo, MigrateFault, MigratedAs, Migrates, Need, NoMemory, OldDirectory, OnlySyncs, OpenFault, Opened, OpensEither, Outside, ReadsBoth, ReadsDirectory, ReadsOldDirectory, Refused, RefusesWaiting, Rose, SaidSince, SaysFor, SaysFrontSince, SourceMeanings, State, Status, SwitchFault, Syncs, TakesOver, Waiting, WasOpened, files_open_any, first_change, full_compacted, need, opens_any, refusal, restarted, said_by, sayings, seen, status_migrated, waits_on_closed, world, common_steps}
use Rattle.gts_migrate.specs.LettingGo.{goes_on}
use Rattle.gts_directory.specs.Directory as directories
use Rattle.gts_record.specs.declared.fault.OpenFault.TheVariants as opening
use Rattle.gts_migrate.specs.declared.fault.MigrateFault.TheVariants as fault
use Rattle.gts_app.proofs.UnreadLemmas.{by_end, new_ended, old_ended}
use Rattle.gts_app.proofs.BothLemmas.{apart_from, both_changed, both_old_unread, both_stay, both_unread, new_is, new_memory, old_is, old_memory, read_both}

-- ---- a directory was not read, or a row doesn't stay

-- nothing was done with the station
still : {S P : Type 0} (w : Waiting) (source : SourceMeanings S) (station : StationMeanings P) (status : Status) (od nd oc nc : S) (at : P) → MigratedAs w source station status (world od oc at) (world nd nc at)
    → ReadsBoth source station status (world od oc at) (world nd nc at)
    → (source.observed → (new old : directories.Directory) → AreRead source (world od oc at) new old → TakesOver new old → IsCalm source (world od oc at) (world nd nc at) → status ≡ NoMemory)
    → Migrates w source station status (world od oc at) (world nd nc at)
still w source station status od nd oc nc at means both memory = grind (arith, common_steps)

pub new_unread : {S P : Type 0} (w : Waiting) (source : SourceMeanings S) (station : StationMeanings P) (status : Status) (od nd oc : S) (at : P)
    → ReadsDirectory source (Err status) od nd → Migrates w source station status (world od oc at) (world nd oc at)
new_unread w source station status od nd oc at h =
    still w source station status od nd oc oc at
    (by_end (λ fault. Directory fault) IsReadEnd new_ended source status od nd h (λ s. MigratedAs w source station s (world od oc at) (world nd oc at))
    (λ fault is. ((refl, refl), is)) (λ rose. (refl, inl rose)) (λ told. inr (inl refl)))
    (both_unread source station status od nd oc at h) (λ observed new old read takes calm. new_memory source station status od nd oc at h observed new read.0 calm.0)

pub old_unread : {S P : Type 0} (w : Waiting) (source : SourceMeanings S) (station : StationMeanings P) (status : Status) (d : directories.Directory) (od nd oc nc : S) (at : P)
    → ReadsDirectory source (Ok d) od nd → ReadsOldDirectory source (Err status) oc nc → Migrates w source station status (world od oc at) (world nd nc at)
old_unread w source station status d od nd oc nc at first h =
    still w source station status od nd oc nc at
    (by_end (λ fault. OldDirectory fault) IsOldReadEnd old_ended source status oc nc h (λ s. MigratedAs w source station s (world od oc at) (world nd nc at))
    (λ fault is. (refl, λ observed. (d, first.read observed d refl, is observed))) (λ rose. (refl, inr rose)) (λ told. inr (inl refl)))
    (both_old_unread source station status d od nd oc nc at first h) (λ observed new old read takes calm. old_memory source station status d od nd oc nc at first h observed old read.1 calm.1)

pub row_changed : {S P : Type 0} (source : SourceMeanings S) (station : StationMeanings P) (d o : directories.Directory) (od nd oc nc : S) → (first : ReadsDirectory source (Ok d) od nd)
    → (second : ReadsOldDirectory source (Ok o) oc nc) → (w : Waiting) (c : Change) (at : P) → first_change d o ≡ Some c → (TakesOver d o → ⊥)
    → Migrates w source station (Changed c.part c.row) (world od oc at) (world nd nc at)
row_changed source station d o od nd oc nc first second w c at is apart = grind (arith, common_steps, still, read_both, both_changed, apart_from)

-- ---- the journal was to be taken over

-- what the files of an answer open to
abbrev need_opened : directories.Directory → Opened → Result Need OpenFault
need_opened d opened = elim opened as (λ _. Result Need OpenFault) [ Err e ↦ Err e | Ok x ↦ Ok (need d (restarted d x.0)) ]

files_of : (d : directories.Directory) (files : Files) (n : Need) → opens_any d files ≡ Ok n → (s : State) × (used : ℕ) × (files_open_any d files ≡ Ok (s, used))
files_of d files n e = grind (arith, common_steps)

pub need_of : (d : directories.Directory) (files : Files) (s : State) (used : ℕ) → files_open_any d files ≡ Ok (s, used) → opens_any d files ≡ Ok (need d (restarted d s))
need_of d files s used e = ap (need_opened d) e

pub two_answers : (n : Need) (e : OpenFault) (opened : Result Need OpenFault) → opened ≡ Ok n → opened ≡ Err e → ⊥
two_answers n e opened one other = cc

pub one_open : (a b : OpenFault) (opened : Result Need OpenFault) → opened ≡ Err a → opened ≡ Err b → a ≡ b
one_open a b opened one other = cc

two_found : (x : ℕ × ℕ) (r : Option (ℕ × ℕ)) → r ≡ Some x → r ≡ None → ⊥
two_found x r one other = cc

one_found : (x y : ℕ × ℕ) (r : Option (ℕ × ℕ)) → r ≡ Some x → r ≡ Some y → x ≡ y
one_found x y r one other = cc

no_room : (x : SwitchFault) (r : Option SwitchFault) → r ≡ Some x → r ≡ None → ⊥
no_room x r one other = cc

-- it was opened, or nothing but a sync was done
opened_or_left : (r : Result (Unit {0}) MigrateFault) → WasOpened r ⊎ LeavesFiles r
opened_or_left (Err (fault.Open e)) = inr tt
opened_or_left _ = inl tt

-- ---- by what becomes of what waits

only_dropped : (w : Waiting) → (w ≡ Refused → ⊥) → w ≡ Dropped
only_dropped Refused never = absurd (never refl)
only_dropped Dropped never = refl

module _ (d : directories.Directory) where
  waits_refused : (w : Waiting) (n : Need) (circuit count : ℕ) → AnswersWaiting {T = Unit {0}} w (Err (fault.Waits circuit count)) (waits_on_closed d n) → RefusesWaiting w d n (circuit, count)
  waits_refused Refused n circuit count is = is
  waits_refused Dropped n circuit count never = never tt

  told_so : (w : Waiting) (n : Need) (circuit count : ℕ) (found : ℕ × ℕ) → RefusesWaiting w d n found → AnswersWaiting {T = Unit {0}} w (Err (fault.Waits circuit count)) (waits_on_closed d n) → (circuit, count) ≡ found
  told_so Refused n circuit count found there is = one_found (circuit, count) found _ is there
  told_so Dropped n circuit count found there is = absurd there

  never_waits : (w : Waiting) (n : Need) (circuit count : ℕ) → MayGo w d n → AnswersWaiting {T = Unit {0}} w (Err (fault.Waits circuit count)) (waits_on_closed d n) → ⊥
  never_waits Refused n circuit count none is = two_found (circuit, count) _ is none
  never_waits Dropped n circuit count none never = never tt

  free_not : (w : Waiting) (n : Need) (found : ℕ × ℕ) → RefusesWaiting w d n found → MayGo w d n → ⊥
  free_not Refused n found there none = two_found found _ there none
  free_not Dropped n found there none = there

  free_ok : (w : Waiting) (n : Need) (done : Unit {0}) → AnswersWaiting w (Ok done) (waits_on_closed d n) → MayGo w d n
  free_ok Refused n done is = is
  free_ok Dropped n done is = tt

  free_full : (w : Waiting) (n : Need) (at wanted limit : ℕ) → AnswersWaiting {T = Unit {0}} w (Err (fault.Full at wanted limit)) (waits_on_closed d n) → MayGo w d n
  free_full Refused n at wanted limit is = is
  free_full Dropped n at wanted limit is = tt

  free_say : (w : Waiting) (n : Need) → AnswersWaiting {T = Unit {0}} w (Err fault.SayFault) (waits_on_closed d n) → MayGo w d n
  free_say Refused n is = is
  free_say Dropped n is = tt

  free_disk : (w : Waiting) (n : Need) → AnswersWaiting {T = Unit {0}} w (Err fault.DiskFault) (waits_on_closed d n) → MayGo w d n
  free_disk Refused n is = is
  free_disk Dropped n is = tt

-- counts of saying: they never fall, and stay where nothing is dropped
says_later : (r : Result (Unit {0}) MigrateFault) (before after : ℕ) → CountsSays r before after → before ≤ after
says_later (Err fault.SayFault) before after rose = rose.0
says_later _ before after same = omega (arith, same)

says_never : (r : Result (Unit {0}) MigrateFault) (before after : ℕ) → (IsSayFaultOf r → ⊥) → CountsSays r before after → after ≡ before
says_never (Err fault.SayFault) before after never rose = absurd (never tt)
says_never _ before after never same = same

-- What is known of an answer, over the station before and after.
pub record Known (observed : Type 0) (w : Waiting) (d o : directories.Directory) (r : Result (Unit {0}) MigrateFault) (before after : List Call) (disk_before disk_after say_before say_after : ℕ) : Type 0 where
  pub moments : observed → (n : Need) → WasOpened r → opens_any o (seen before) ≡ Ok n → EachSince (Did Syncs ∷ before) after (OpensEither w o d n)
  pub migrated : observed → (s : State) (used : ℕ) → files_open_any o (seen before) ≡ Ok (s, used) → OnOk r (IsMigrated o d s before after)
  pub full : observed → (s : State) (used : ℕ) → files_open_any o (seen before) ≡ Ok (s, used) → GivesRoomFor r d (goes_on d o (need o s))
  pub waiting : observed → (s : State) (used : ℕ) → files_open_any o (seen before) ≡ Ok (s, used) → AnswersWaiting w r (waits_on_closed d (need o s))
  pub answers : observed → AnswersOpening r (opens_any o (seen before))
  pub told : observed → LeavesFiles r → OnlySyncs before after
  pub disk : IsDiskFaultOf r → Rose disk_before disk_after
  pub said : observed → (s : State) (used : ℕ) → files_open_any o (seen before) ≡ Ok (s, used) → SaysFor r (sayings w d (need o s)) before after
  pub says : CountsSays r say_before say_after
  pub unsaid : w ≡ Refused → IsSayFaultOf r → ⊥

module _ {S P : Type 0} (w : Waiting) (source : SourceMeanings S) (station : StationMeanings P) (d o : directories.Directory) (od nd oc nc : S) (first : ReadsDirectory source (Ok d) od nd) (second : ReadsOldDirectory source (Ok o) oc nc)
    (takes : TakesOver d o) (old new : P) where
  abbrev Ends : Result (Unit {0}) MigrateFault → Type 0
  Ends r = Known station.observed w d o r (station.calls old) (station.calls new) (station.disk_faults old) (station.disk_faults new) (station.say_faults old) (station.say_faults new)

  refused_by : (e : OpenFault) → (station.observed → opens_any o (seen (station.calls old)) ≡ Err e) → (station.observed → OnlySyncs (station.calls old) (station.calls new))
      → IsRefusedBy source station (world od oc old) (world nd nc new) e
  refused_by e is told = (record { new = d; old = o; read = read_both source station d o od nd oc nc first second; holds = (takes, is) }, told)

  -- it was opened, and nothing kept it from being taken over
  begun_under : (OfReceipts : Outside → Type 0)
      → (station.observed → (s : State) × (used : ℕ) × (files_open_any o (seen (station.calls old)) ≡ Ok (s, used)) × (MayGo w d (need o s)
      × (full_compacted d (goes_on d o (need o s)) ≡ None) × OfReceipts (sayings w d (need o s))))
      → IsBegunUnder w source station (world od oc old) OfReceipts
  begun_under OfReceipts opened = record { new = d; old = o; read = read_both source station d o od nd oc nc first second; holds = record { takes = takes; opened = opened } }

  means : (r : Result (Unit {0}) MigrateFault) → Ends r → MigratedAs w source station (status_migrated r) (world od oc old) (world nd nc new)
  means (Ok done) e = record {
    new = d;
    old = o;
    read = read_both source station d o od nd oc nc first second;
    holds = record {
      takes = takes;
      opened = λ t.
          let x = files_of o (seen (station.calls old)) (e.answers t).0 (e.answers t).1 in
          (x.0, x.1, x.2, (free_ok d w (need o x.0) done (e.waiting t x.0 x.1 x.2), e.migrated t x.0 x.1 x.2, e.said t x.0 x.1 x.2));
    };
  }
  means (Err (fault.Open opening.NoJournal)) e = refused_by opening.NoJournal (λ t. (e.answers t).0) (λ t. e.told t tt)
  means (Err (fault.Open opening.OldVersion)) e = λ t. (e.answers t).1 refl
  means (Err (fault.Open (opening.NotThis want found))) e = refused_by (opening.NotThis want found) (λ t. (e.answers t).0) (λ t. e.told t tt)
  means (Err (fault.Open (opening.Damaged file at))) e = refused_by (opening.Damaged file at) (λ t. (e.answers t).0) (λ t. e.told t tt)
  means (Err (fault.Open opening.DiskFault)) e = (e.disk tt, inl (λ t. e.told t tt))
  means (Err (fault.Open opening.NoMemory)) e = λ t. e.told t tt
  means (Err (fault.Waits circuit count)) e = (
    record {
      new = d;
      old = o;
      read = read_both source station d o od nd oc nc first second;
      holds = record {
        takes = takes;
        opened = λ t.
            let x = files_of o (seen (station.calls old)) (e.answers t).0 (e.answers t).1 in
            (x.0, x.1, x.2, waits_refused d w (need o x.0) circuit count (e.waiting t x.0 x.1 x.2));
      };
    },
    λ t. e.told t tt,
  )
  means (Err (fault.Full used wanted limit)) e = (
    record {
      new = d;
      old = o;
      read = read_both source station d o od nd oc nc first second;
      holds = record {
        takes = takes;
        opened = λ t.
            let x = files_of o (seen (station.calls old)) (e.answers t).0 (e.answers t).1 in
            (x.0, x.1, x.2, e.full t x.0 x.1 x.2);
      };
    },
    λ t. e.told t tt,
  )
  means (Err fault.DiskFault) e = (
    e.disk tt,
    inr (begun_under (λ text. SaidSince (station.calls old) (station.calls new) [] ⊎ SaidSince (station.calls old) (station.calls new) text) (λ t.
        let x = files_of o (seen (station.calls old)) (e.answers t).0 (e.answers t).1 in
        (x.0, x.1, x.2, (free_disk d w (need o x.0) (e.waiting t x.0 x.1 x.2), e.full t x.0 x.1 x.2, e.said t x.0 x.1 x.2)))),
  )
  means (Err fault.SayFault) e = (
    only_dropped w (λ refused. e.unsaid refused tt),
    e.says.1,
    begun_under (SaysFrontSince (station.calls old) (station.calls new)) (λ t.
        let x = files_of o (seen (station.calls old)) (e.answers t).0 (e.answers t).1 in
        (x.0, x.1, x.2, (free_say d w (need o x.0) (e.waiting t x.0 x.1 x.2), e.full t x.0 x.1 x.2, e.said t x.0 x.1 x.2))),
  )
  means (Err fault.NoMemory) e = λ t. e.told t tt

  -- a fault of the files is answered
  answered : (r : Result (Unit {0}) MigrateFault) → Ends r → station.observed → (e : OpenFault) → opens_any o (seen (station.calls old)) ≡ Err e
      → (Rose (station.disk_faults old) (station.disk_faults new) → ⊥) → (status_migrated r ≡ refusal e) ⊎ (status_migrated r ≡ NoMemory)
  answered (Err (fault.Open opening.NoJournal)) x t e bad quiet = inl (ap refusal (one_open opening.NoJournal e _ (x.answers t).0 bad))
  answered (Err (fault.Open opening.OldVersion)) x t e bad quiet = inl (ap refusal (one_open opening.OldVersion e _ (x.answers t).0 bad))
  answered (Err (fault.Open (opening.NotThis want found))) x t e bad quiet = inl (ap refusal (one_open (opening.NotThis want found) e _ (x.answers t).0 bad))
  answered (Err (fault.Open (opening.Damaged file at))) x t e bad quiet = inl (ap refusal (one_open (opening.Damaged file at) e _ (x.answers t).0 bad))
  answered (Err (fault.Open opening.DiskFault)) x t e bad quiet = absurd (quiet (x.disk tt))
  answered (Err (fault.Open opening.NoMemory)) x t e bad quiet = inr refl
  answered (Err fault.DiskFault) x t e bad quiet = absurd (quiet (x.disk tt))
  answered (Err fault.NoMemory) x t e bad quiet = inr refl
  answered _ x t e bad quiet = absurd (two_answers (x.answers t).0 e _ (x.answers t).1 bad)

  -- what waits on a closed circuit is told
  waits : (r : Result (Unit {0}) MigrateFault) → Ends r → station.observed → (s : State) (used : ℕ) (found : ℕ × ℕ) → files_open_any o (seen (station.calls old)) ≡ Ok (s, used)
      → RefusesWaiting w d (need o s) found
      → (Rose (station.disk_faults old) (station.disk_faults new) → ⊥) → (status_migrated r ≡ Closed found.0 found.1) ⊎ (status_migrated r ≡ NoMemory)
  waits (Ok done) x t s used found is there quiet = absurd (free_not d w (need o s) found there (free_ok d w (need o s) done (x.waiting t s used is)))
  waits (Err (fault.Open opening.NoJournal)) x t s used found is there quiet =
      absurd (two_answers (need o (restarted o s)) opening.NoJournal _ (need_of o (seen (station.calls old)) s used is) (x.answers t).0)
  waits (Err (fault.Open opening.OldVersion)) x t s used found is there quiet =
      absurd (two_answers (need o (restarted o s)) opening.OldVersion _ (need_of o (seen (station.calls old)) s used is) (x.answers t).0)
  waits (Err (fault.Open (opening.NotThis want mark))) x t s used found is there quiet =
      absurd (two_answers (need o (restarted o s)) (opening.NotThis want mark) _ (need_of o (seen (station.calls old)) s used is) (x.answers t).0)
  waits (Err (fault.Open (opening.Damaged file at))) x t s used found is there quiet =
      absurd (two_answers (need o (restarted o s)) (opening.Damaged file at) _ (need_of o (seen (station.calls old)) s used is) (x.answers t).0)
  waits (Err (fault.Open opening.NoMemory)) x t s used found is there quiet = inr refl
  waits (Err (fault.Waits circuit count)) x t s used found is there quiet =
      inl (ap (λ (f : ℕ × ℕ). Closed f.0 f.1) (told_so d w (need o s) circuit count found there (x.waiting t s used is)))
  waits (Err (fault.Full at wanted limit)) x t s used found is there quiet = absurd (free_not d w (need o s) found there (free_full d w (need o s) at wanted limit (x.waiting t s used is)))
  waits (Err fault.SayFault) x t s used found is there quiet = absurd (free_not d w (need o s) found there (free_say d w (need o s) (x.waiting t s used is)))
  waits (Err fault.NoMemory) x t s used found is there quiet = inr refl
  waits _ x t s used found is there quiet = absurd (quiet (x.disk tt))

  -- with room and without faults it is done
  complete : (r : Result (Unit {0}) MigrateFault) → Ends r → station.observed → (s : State) (used : ℕ) → files_open_any o (seen (station.calls old)) ≡ Ok (s, used)
      → MayGo w d (need o s) → full_compacted d (goes_on d o (need o s)) ≡ None
      → (Rose (station.disk_faults old) (station.disk_faults new) → ⊥) → (Rose (station.say_faults old) (station.say_faults new) → ⊥) → (status_migrated r ≡ Done) ⊎ (status_migrated r ≡ NoMemory)
  complete (Ok done) x t s used is none free quiet sound = inl refl
  complete (Err (fault.Open opening.NoJournal)) x t s used is none free quiet sound = absurd (two_answers (need o (restarted o s)) opening.NoJournal _ (need_of o (seen (station.calls old)) s used is) (x.answers t).0)
  complete (Err (fault.Open opening.OldVersion)) x t s used is none free quiet sound = absurd (two_answers (need o (restarted o s)) opening.OldVersion _ (need_of o (seen (station.calls old)) s used is) (x.answers t).0)
  complete (Err (fault.Open (opening.NotThis want found))) x t s used is none free quiet sound =
      absurd (two_answers (need o (restarted o s)) (opening.NotThis want found) _ (need_of o (seen (station.calls old)) s used is) (x.answers t).0)
  complete (Err (fault.Open (opening.Damaged file at))) x t s used is none free quiet sound =
      absurd (two_answers (need o (restarted o s)) (opening.Damaged file at) _ (need_of o (seen (station.calls old)) s used is) (x.answers t).0)
  complete (Err (fault.Open opening.NoMemory)) x t s used is none free quiet sound = inr refl
  complete (Err (fault.Waits circuit count)) x t s used is none free quiet sound = absurd (never_waits d w (need o s) circuit count none (x.waiting t s used is))
  complete (Err (fault.Full at wanted limit)) x t s used is none free quiet sound = let f = x.full t s used is in absurd (no_room _ _ f.1 free)
  complete (Err fault.SayFault) x t s used is none free quiet sound = absurd (sound x.says.1)
  complete (Err fault.NoMemory) x t s used is none free quiet sound = inr refl
  complete _ x t s used is none free quiet sound = absurd (quiet (x.disk tt))

  leaves : (r : Result (Unit {0}) MigrateFault) → Ends r → station.observed → (n : Need) → opens_any o (seen (station.calls old)) ≡ Ok n → LeavesJournal w station (world od oc old) (world nd nc new) d o n
  leaves r x t n is = elim (opened_or_left r) [
    | inl was ↦ inr (x.moments t n was is)
    | inr left ↦ inl (x.told t left)
  ]

  pub taken_over : (r : Result (Unit {0}) MigrateFault) (status : Status) → status ≡ status_migrated r → Ends r → (station.observed → (w ≡ Refused) ⊎ LeavesFiles r → said_by (station.calls new) ≡ said_by (station.calls old))
      → station.disk_faults old ≤ station.disk_faults new
      → Migrates w source station status (world od oc old) (world nd nc new)
  taken_over r status is x silent later =
      subst (λ (s : Status). Migrates w source station s (world od oc old) (world nd nc new)) (sym is) (record {
        means = means r x;
        both = both_stay source station d o od nd oc nc first second (status_migrated r) old new takes (answered r x) later (says_later r (station.say_faults old) (station.say_faults new) x.says);
        moments = λ observed t other under n read opened.
            let same = new_is source station d o od nd oc nc first second observed other read.0 in
            let so = old_is source station d o od nd oc nc first second observed under read.1 in
            subst (λ (y : directories.Directory). LeavesJournal w station (world od oc old) (world nd nc new) other y n) so
            (subst (λ (y : directories.Directory). LeavesJournal w station (world od oc old) (world nd nc new) y o n) same
            (leaves r x t n (subst (λ (y : directories.Directory). opens_any y (seen (station.calls old)) ≡ Ok n) (sym so) opened)));
        silent = λ t refused. silent t (inl refused);
        refused = λ observed t other under s used found read more opened there calm quiet.
            let same = new_is source station d o od nd oc nc first second observed other read.0 in
            let so = old_is source station d o od nd oc nc first second observed under read.1 in
            waits r x t s used found (subst (λ (y : directories.Directory). files_open_any y (seen (station.calls old)) ≡ Ok (s, used)) (sym so) opened)
            (subst (λ (y : directories.Directory). RefusesWaiting w d (need y s) found) (sym so)
            (subst (λ (y : directories.Directory). RefusesWaiting w y (need under s) found) (sym same) there)) quiet;
        complete = λ observed t other under s used read more opened none free calm quiet sound.
            let same = new_is source station d o od nd oc nc first second observed other read.0 in
            let so = old_is source station d o od nd oc nc first second observed under read.1 in
            complete r x t s used (subst (λ (y : directories.Directory). files_open_any y (seen (station.calls old)) ≡ Ok (s, used)) (sym so) opened)
            (subst (λ (y : directories.Directory). MayGo w d (need y s)) (sym so)
            (subst (λ (y : directories.Directory). MayGo w y (need under s)) (sym same) none))
            (subst (λ (y : directories.Directory). full_compacted d (goes_on d y (need y s)) ≡ None) (sym so)
            (subst (λ (y : directories.Directory). full_compacted y (goes_on y under (need under s)) ≡ None) (sym same) free)) quiet sound;
        quiet = λ refused. says_never r (station.say_faults old) (station.say_faults new) (x.unsaid refused) x.says;
      })
