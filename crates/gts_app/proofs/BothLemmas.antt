-- What holds of a run under a directory that is to take over from an old one, whatever is made of the journal.
use Rattle.gts_app.proofs.Cited.{◌≡◌, ◌≤◌, [], Option, Some, Ok, Err, inl, inr, refl, sym, ap, subst, ◌∙◌, arith, AreRead, Change, Changed, Directory, EndsIn, Ghosts as StationMeanings, IsOldReadEnd, IsReadEnd, NoMemory, OldDirectory, OpenFault, ReadsBoth, ReadsDirectory, ReadsFew, ReadsOldDirectory, SourceMeanings, Status, Stays, TakesOver, directory_of_bytes, first_change, opens_any, refusal, seen, world, none-some, none_from, common_steps}
use Rattle.gts_directory.specs.Directory as directories
use Rattle.gts_app.proofs.UnreadLemmas.{fault_told, new_ended, no_fault, old_ended, only_memory, same_directory}

-- nothing of a source was read
none_taken : {S : Type 0} (source : SourceMeanings S) (at : S) → ReadsFew source at at
none_taken source at observed = ([], refl, omega arith)

one_change : (a b : Change) (r : Option Change) → r ≡ Some a → r ≡ Some b → a ≡ b
one_change a b r one other = cc

-- nothing was read
pub both_untried : {S P : Type 0} (source : SourceMeanings S) (station : StationMeanings P) (od oc : S) (at : P) → ReadsBoth source station NoMemory (world od oc at) (world od oc at)
both_untried source station od oc at = grind (arith, common_steps, none_taken)

-- ---- the directory was not read

module _ {S P : Type 0} (source : SourceMeanings S) (station : StationMeanings P) (status : Status) (od nd oc : S) (at : P) (h : ReadsDirectory source (Err status) od nd) where
  pub new_memory : source.observed → (new : directories.Directory) → directory_of_bytes (source.left od) ≡ Ok new → Stays (source.faults od) (source.faults nd) → status ≡ NoMemory
  new_memory = only_memory (λ fault. Directory fault) IsReadEnd new_ended source status od nd h

  pub both_unread : ReadsBoth source station status (world od oc at) (world nd oc at)
  both_unread = record {
    old_refused = λ observed new e read bad calm. inr (new_memory observed new read calm.0);
    changed = λ observed new old c read first calm. inr (new_memory observed new read.0 calm.0);
    answered = λ observed told new old e read takes bad calm quiet. inr (new_memory observed new read.0 calm.0);
    unread = λ observed e bad. refl;
    taken = h.taken;
    old_taken = none_taken source oc;
    counts = (h.cause.later, omega arith, omega arith, omega arith);
  }

-- ---- the old directory was not read

module _ {S P : Type 0} (source : SourceMeanings S) (station : StationMeanings P) (status : Status) (d : directories.Directory) (od nd oc nc : S) (at : P) (first : ReadsDirectory source (Ok d) od nd)
    (h : ReadsOldDirectory source (Err status) oc nc) where
  pub old_memory : source.observed → (old : directories.Directory) → directory_of_bytes (source.left oc) ≡ Ok old → Stays (source.faults oc) (source.faults nc) → status ≡ NoMemory
  old_memory = only_memory (λ fault. OldDirectory fault) IsOldReadEnd old_ended source status oc nc h

  pub both_old_unread : ReadsBoth source station status (world od oc at) (world nd nc at)
  both_old_unread = record {
    old_refused = λ observed new e read bad calm. fault_told (λ fault. OldDirectory fault) IsOldReadEnd old_ended source status oc nc h observed e bad calm.1;
    changed = λ observed new old c read first calm. inr (old_memory observed old read.1 calm.1);
    answered = λ observed told new old e read takes bad calm quiet. inr (old_memory observed old read.1 calm.1);
    unread = λ observed e bad. absurd (no_fault d e (directory_of_bytes (source.left od)) (first.read observed d refl) bad);
    taken = first.taken;
    old_taken = h.taken;
    counts = (first.cause.later, h.cause.later, omega arith, omega arith);
  }

-- ---- both were read

module _ {S P : Type 0} (source : SourceMeanings S) (station : StationMeanings P) (d o : directories.Directory) (od nd oc nc : S) (first : ReadsDirectory source (Ok d) od nd) (second : ReadsOldDirectory source (Ok o) oc nc) where
  pub read_both : source.observed → (directory_of_bytes (source.left od) ≡ Ok d) × (directory_of_bytes (source.left oc) ≡ Ok o)
  read_both observed = (first.read observed d refl, second.read observed o refl)

  pub new_is : source.observed → (new : directories.Directory) → directory_of_bytes (source.left od) ≡ Ok new → d ≡ new
  new_is observed new read = same_directory d new (directory_of_bytes (source.left od)) (read_both observed).0 read

  pub old_is : source.observed → (old : directories.Directory) → directory_of_bytes (source.left oc) ≡ Ok old → o ≡ old
  old_is observed old read = same_directory o old (directory_of_bytes (source.left oc)) (read_both observed).1 read

  -- the first row that doesn't stay is that of these two
  change_is : source.observed → (at : P) (new old : directories.Directory) (c : Change) → AreRead source (world od oc at) new old → first_change new old ≡ Some c → first_change d o ≡ Some c
  change_is observed at new old c read there =
      ap (λ (x : directories.Directory). first_change x o) (new_is observed new read.0) ∙ ap (first_change new) (old_is observed old read.1) ∙ there

  -- a directory doesn't take over where these don't
  pub apart_from : (TakesOver d o → ⊥) → source.observed → (at : P) (new old : directories.Directory) → AreRead source (world od oc at) new old → TakesOver new old → ⊥
  apart_from apart observed at new old read takes =
      apart (subst (λ (x : directories.Directory). TakesOver d x) (sym (old_is observed old read.1)) (subst (λ (x : directories.Directory). TakesOver x old) (sym (new_is observed new read.0)) takes))

  -- over a journal that is answered so, where a row that doesn't stay is told
  module _ (status : Status) (old new : P) (changes : (c : Change) → first_change d o ≡ Some c → EndsIn (Changed c.part c.row) status)
      (answers : source.observed → station.observed → (other under : directories.Directory) (e : OpenFault) → AreRead source (world od oc old) other under → TakesOver other under
      → opens_any o (seen (station.calls old)) ≡ Err e → Stays (station.disk_faults old) (station.disk_faults new) → EndsIn (refusal e) status)
      (disk : station.disk_faults old ≤ station.disk_faults new) (say : station.say_faults old ≤ station.say_faults new) where
    pub both_read : ReadsBoth source station status (world od oc old) (world nd nc new)
    both_read = record {
      old_refused = λ observed other e read bad calm. absurd (no_fault o e (directory_of_bytes (source.left oc)) (read_both observed).1 bad);
      changed = λ observed other under c read there calm. changes c (change_is observed old other under c read there);
      answered = λ observed told other under e read takes bad calm quiet.
          answers observed told other under e read takes
          (subst (λ (y : directories.Directory). opens_any y (seen (station.calls old)) ≡ Err e) (sym (old_is observed under read.1)) bad) quiet;
      unread = λ observed e bad. absurd (no_fault d e (directory_of_bytes (source.left od)) (read_both observed).0 bad);
      taken = first.taken;
      old_taken = second.taken;
      counts = (first.cause.later, second.cause.later, disk, say);
    }

  -- a row doesn't stay
  pub both_changed : (c : Change) (at : P) → first_change d o ≡ Some c → (TakesOver d o → ⊥) → ReadsBoth source station (Changed c.part c.row) (world od oc at) (world nd nc at)
  both_changed c at is apart =
      both_read (Changed c.part c.row) at at (λ other there. inl (ap (λ (x : Change). Changed x.part x.row) (one_change c other (first_change d o) is there)))
      (λ observed told new old e read takes bad quiet. absurd (apart_from apart observed at new old read takes)) (omega arith) (omega arith)

  -- each row stays
  pub both_stay : (status : Status) (old new : P) → TakesOver d o
      → (station.observed → (e : OpenFault) → opens_any o (seen (station.calls old)) ≡ Err e → Stays (station.disk_faults old) (station.disk_faults new) → EndsIn (refusal e) status)
      → station.disk_faults old ≤ station.disk_faults new → station.say_faults old ≤ station.say_faults new → ReadsBoth source station status (world od oc old) (world nd nc new)
  both_stay status old new takes answers disk say =
      both_read status old new (λ c there. absurd (none-some c (sym (none_from d o takes) ∙ there))) (λ observed told other under e read takes bad quiet. answers told e bad quiet) disk say
