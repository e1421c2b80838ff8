-- What `migrate check` comes to: where a directory is refused, where a row doesn't stay, and behind the trial of the journal.
use Rattle.gts_app.proofs.Cited.{◌≡◌, ◌≢◌, ◌≤◌, ◌⊎◌, ℕ, List, ◌∷◌, Some, Result, Ok, Err, inl, inr, refl, sym, ap, subst, ◌∙◌, arith, AreRead, Breaks, Call, Change, Changed, Did, Directory, Done, Files, Ghosts as StationMeanings, IsAnswer, IsCalm, IsOldReadEnd, IsReadEnd, Need, NoMemory, OldDirectory, OnlySyncs, OpenFault, OutputFault, ReadsBoth, ReadsDirectory, ReadsOldDirectory, Rose, Says, SourceMeanings, State, Status, Syncs, TakesOver, Tried, TriedAs, TriesMigration, changes, files_open_any, first_change, need, opens_any, refusal, restarted, seen, world, common_steps}
use Rattle.gts_directory.specs.Directory as directories
use Rattle.gts_record.specs.declared.fault.OpenFault.TheVariants as opening
use Rattle.gts_app.proofs.UnreadLemmas.{by_end, new_ended, old_ended}
use Rattle.gts_app.proofs.BothLemmas.{apart_from, both_changed, both_old_unread, both_stay, both_unread, both_untried, new_memory, old_is, old_memory, read_both}
use Rattle.gts_app.proofs.ShowLemmas.{unchanged}
use Rattle.gts_app.proofs.GenerateLemmas.{as_seen}
use Rattle.gts_app.proofs.MigrateLemmas.{need_of, two_answers, one_open}

-- ---- nothing was read, or a row doesn't stay

-- nothing was done with the station
still : {S P : Type 0} (source : SourceMeanings S) (station : StationMeanings P) (status : Status) (od nd oc nc : S) (at : P) → TriedAs source station status (world od oc at) (world nd nc at)
    → ReadsBoth source station status (world od oc at) (world nd nc at)
    → (source.observed → (new old : directories.Directory) → AreRead source (world od oc at) new old → TakesOver new old → IsCalm source (world od oc at) (world nd nc at) → status ≡ NoMemory)
    → TriesMigration source station status (world od oc at) (world nd nc at)
still source station status od nd oc nc at means both memory = grind (arith, common_steps)

pub untried : {S P : Type 0} (source : SourceMeanings S) (station : StationMeanings P) (od oc : S) (at : P)
    → TriesMigration source station NoMemory (world od oc at) (world od oc at)
untried source station od oc at = grind (arith, common_steps, still, both_untried)

pub new_unread : {S P : Type 0} (source : SourceMeanings S) (station : StationMeanings P) (status : Status) (od nd oc : S) (at : P)
    → ReadsDirectory source (Err status) od nd → TriesMigration source station status (world od oc at) (world nd oc at)
new_unread source station status od nd oc at h =
    still source station status od nd oc oc at
    (by_end (λ fault. Directory fault) IsReadEnd new_ended source status od nd h (λ s. TriedAs source station s (world od oc at) (world nd oc at))
    (λ fault is. ((refl, refl), is)) (λ rose. (refl, inl rose)) (λ told. inr (inl refl)))
    (both_unread source station status od nd oc at h) (λ observed new old read takes calm. new_memory source station status od nd oc at h observed new read.0 calm.0)

pub old_unread : {S P : Type 0} (source : SourceMeanings S) (station : StationMeanings P) (status : Status) (d : directories.Directory) (od nd oc nc : S) (at : P)
    → ReadsDirectory source (Ok d) od nd → ReadsOldDirectory source (Err status) oc nc → TriesMigration source station status (world od oc at) (world nd nc at)
old_unread source station status d od nd oc nc at first h =
    still source station status od nd oc nc at
    (by_end (λ fault. OldDirectory fault) IsOldReadEnd old_ended source status oc nc h (λ s. TriedAs source station s (world od oc at) (world nd nc at))
    (λ fault is. (refl, λ observed. (d, first.read observed d refl, is observed))) (λ rose. (refl, inr rose)) (λ told. inr (inl refl)))
    (both_old_unread source station status d od nd oc nc at first h) (λ observed new old read takes calm. old_memory source station status d od nd oc nc at first h observed old read.1 calm.1)

-- ---- both were read

module _ {S P : Type 0} (source : SourceMeanings S) (station : StationMeanings P) (d o : directories.Directory) (od nd oc nc : S) (first : ReadsDirectory source (Ok d) od nd) (second : ReadsOldDirectory source (Ok o) oc nc) where
  pub row_changed : (c : Change) (at : P) → first_change d o ≡ Some c → (TakesOver d o → ⊥) → TriesMigration source station (Changed c.part c.row) (world od oc at) (world nd nc at)
  row_changed c at is apart =
      still source station (Changed c.part c.row) od nd oc nc at
      (refl, record { new = d; old = o; read = read_both source station d o od nd oc nc first second; holds = is })
      (both_changed source station d o od nd oc nc first second c at is apart)
      (λ observed new old read takes calm. absurd (apart_from source station d o od nd oc nc first second apart observed at new old read takes))

  module _ (takes : TakesOver d o) (before : P) where
    -- ---- the journal was not opened

    module _ (after : P) (told : station.observed → OnlySyncs (station.calls before) (station.calls after)) (later : station.disk_faults before ≤ station.disk_faults after)
        (say : station.say_faults after ≡ station.say_faults before) where
      means : (e : OpenFault) → (station.observed → IsAnswer e (opens_any o (seen (station.calls before)))) → (station.observed → e ≢ opening.OldVersion)
          → (e ≡ opening.DiskFault → Rose (station.disk_faults before) (station.disk_faults after)) → TriedAs source station (refusal e) (world od oc before) (world nd nc after)
      means opening.NoJournal is never rose = (record { new = d; old = o; read = read_both source station d o od nd oc nc first second; holds = (takes, is) }, told)
      means opening.OldVersion is never rose = λ t. never t refl
      means (opening.NotThis want found) is never rose = (record { new = d; old = o; read = read_both source station d o od nd oc nc first second; holds = (takes, is) }, told)
      means (opening.Damaged file at) is never rose = (record { new = d; old = o; read = read_both source station d o od nd oc nc first second; holds = (takes, is) }, told)
      means opening.DiskFault is never rose = rose refl
      means opening.NoMemory is never rose = told

      -- a fault of the files is answered
      answers : (e other : OpenFault) (opened : Result Need OpenFault) → IsAnswer e opened → opened ≡ Err other → (e ≡ opening.DiskFault → ⊥) → (refusal e ≡ refusal other) ⊎ (refusal e ≡ NoMemory)
      answers opening.NoJournal other opened is bad quiet = inl (ap refusal (one_open opening.NoJournal other opened is bad))
      answers opening.OldVersion other opened is bad quiet = inl (ap refusal (one_open opening.OldVersion other opened is bad))
      answers (opening.NotThis want found) other opened is bad quiet = inl (ap refusal (one_open (opening.NotThis want found) other opened is bad))
      answers (opening.Damaged file at) other opened is bad quiet = inl (ap refusal (one_open (opening.Damaged file at) other opened is bad))
      answers opening.DiskFault other opened is bad quiet = absurd (quiet refl)
      answers opening.NoMemory other opened is bad quiet = inr refl

      -- and where they open, memory was wanting
      wanting : (e : OpenFault) (n : Need) (opened : Result Need OpenFault) → IsAnswer e opened → opened ≡ Ok n → (e ≡ opening.DiskFault → ⊥) → refusal e ≡ NoMemory
      wanting opening.NoJournal n opened is good quiet = absurd (two_answers n opening.NoJournal opened good is)
      wanting opening.OldVersion n opened is good quiet = absurd (two_answers n opening.OldVersion opened good is)
      wanting (opening.NotThis want found) n opened is good quiet = absurd (two_answers n (opening.NotThis want found) opened good is)
      wanting (opening.Damaged file at) n opened is good quiet = absurd (two_answers n (opening.Damaged file at) opened good is)
      wanting opening.DiskFault n opened is good quiet = absurd (quiet refl)
      wanting opening.NoMemory n opened is good quiet = refl

      pub not_opened : (e : OpenFault) (status : Status) → status ≡ refusal e → (station.observed → IsAnswer e (opens_any o (seen (station.calls before)))) → (station.observed → e ≢ opening.OldVersion)
          → (e ≡ opening.DiskFault → Rose (station.disk_faults before) (station.disk_faults after)) → TriesMigration source station status (world od oc before) (world nd nc after)
      not_opened e status same is never rose =
          subst (λ (s : Status). TriesMigration source station s (world od oc before) (world nd nc after)) (sym same) (record {
            means = means e is never rose;
            both = both_stay source station d o od nd oc nc first second (refusal e) before after takes
                (λ t other bad quiet. answers e other (opens_any o (seen (station.calls before))) (is t) bad (λ disk. quiet (rose disk))) later (omega (arith, say));
            files = λ t k. unchanged (station.calls before) (station.calls after) k (told t);
            only_syncs = λ t unsaid. told t;
            complete = λ observed t new old s used read more opened calm quiet sound.
                let so = old_is source station d o od nd oc nc first second observed old read.1 in
                let here = subst (λ (y : directories.Directory). files_open_any y (seen (station.calls before)) ≡ Ok (s, used)) (sym so) opened in
                inr (wanting e (need o (restarted o s)) (opens_any o (seen (station.calls before))) (is t) (need_of o (seen (station.calls before)) s used here) (λ disk. quiet (rose disk)));
          })

    -- ---- the report was made

    module _ (mid after : P) (text : List ℕ)
        (report : station.observed → (s : State) × (used : ℕ) × (files_open_any o (seen (station.calls before)) ≡ Ok (s, used)) × (text ≡ changes d o (need o s)))
        (synced : station.observed → station.calls mid ≡ Did Syncs ∷ station.calls before)
        (disk_later : station.disk_faults before ≤ station.disk_faults mid) (say_same : station.say_faults mid ≡ station.say_faults before)
        (say_later : station.say_faults mid ≤ station.say_faults after) (disk_same : station.disk_faults after ≡ station.disk_faults mid) where
      -- it is that of what the files open to
      tried : (OfText : List ℕ → Type 0) → (station.observed → OfText text) → Tried source station (world od oc before) OfText
      tried OfText of = record {
        new = d;
        old = o;
        read = read_both source station d o od nd oc nc first second;
        holds = record {
          takes = takes;
          opened = λ t. let x = report t in (x.0, x.1, x.2, subst OfText x.3 (of t));
        };
      }

      -- the files open to no fault
      never_bad : station.observed → (e : OpenFault) → opens_any o (seen (station.calls before)) ≡ Err e → ⊥
      never_bad t e bad =
          let x = report t in
          two_answers (need o (restarted o x.0)) e (opens_any o (seen (station.calls before))) (need_of o (seen (station.calls before)) x.0 x.1 x.2) bad

      pub reported : (station.observed → station.calls after ≡ Did (Says 0 text) ∷ station.calls mid) → TriesMigration source station Done (world od oc before) (world nd nc after)
      reported said =
          let now : station.observed → station.calls after ≡ Did (Says 0 text) ∷ Did Syncs ∷ station.calls before
          = λ t. said t ∙ ap (λ (calls : List Call). Did (Says 0 text) ∷ calls) (synced t) in
          record {
            means = tried (λ (x : List ℕ). station.calls after ≡ Did (Says 0 x) ∷ Did Syncs ∷ station.calls before) now;
            both = both_stay source station d o od nd oc nc first second Done before after takes (λ t e bad quiet. absurd (never_bad t e bad)) (omega (arith, disk_later, disk_same)) (omega (arith, say_same, say_later));
            files = λ t k. ap (λ (calls : List Call). seen calls k) (now t);
            only_syncs = λ t unsaid. absurd (unsaid tt);
            complete = λ observed t new old s used read more opened calm quiet sound. inl refl;
          }

      pub not_said : (station.observed → Breaks (Says 0 text) (station.calls mid) (station.calls after)) → Rose (station.say_faults mid) (station.say_faults after)
          → TriesMigration source station OutputFault (world od oc before) (world nd nc after)
      not_said broke rose =
          let rose_here : Rose (station.say_faults before) (station.say_faults after) = subst (λ (n : ℕ). Rose n (station.say_faults after)) say_same rose in
          let now : station.observed → Breaks (Says 0 text) (Did Syncs ∷ station.calls before) (station.calls after)
          = λ t. subst (λ (calls : List Call). Breaks (Says 0 text) calls (station.calls after)) (synced t) (broke t) in
          record {
            means = (rose_here, tried (λ (x : List ℕ). Breaks (Says 0 x) (Did Syncs ∷ station.calls before) (station.calls after)) now);
            both = both_stay source station d o od nd oc nc first second OutputFault before after takes (λ t e bad quiet. absurd (never_bad t e bad)) (omega (arith, disk_later, disk_same)) (omega (arith, say_same, say_later));
            files = λ t k. ap (λ (files : Files). files k) (as_seen text (Did Syncs ∷ station.calls before) (station.calls after) (now t));
            only_syncs = λ t unsaid. absurd (unsaid tt);
            complete = λ observed t new old s used read more opened calm quiet sound. absurd (sound rose_here);
          }
