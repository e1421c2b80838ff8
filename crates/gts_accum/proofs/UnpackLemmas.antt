-- How the run of a file ended, by the run of the capture that it stands for.
use Rattle.gts_accum.specs.Traced.{IsSince, whether_failed}
use Rattle.gts_traits.specs.Cited.{Rose}
use Rattle.gts_accum.proofs.Cited.{Ahead, Bool, true, false, ap, ◌∙◌, ◌-◌, ◌^◌, if◌then◌else◌, ◌≡◌, ℕ, ◌<◌, ◌≤◌, List, [], ◌++◌, length, Option, Some, None, inl, inr, refl, sym, subst, arith, append-nil, Bad, Directory, Ended, EndsEarly, HasFileCause, HasReplayCause, HasUnpackCause, IsEndAt, IsEndOf, IsFileEnd, IsLeft, IsPlaceMet, IsWhole, Journaled, ReplayEnd, Standing, StandsFor, Step, UnpackEnd, Unpacks, badplace, captured, readable, reading, steps_read, IsUnfailed, reads_once, early_is_none, common_steps}
use Rattle.gts_replay.specs.Cited.{Ends}
use Rattle.gts_event.specs.declared.event.Entry.{Entry}
use Rattle.gts_connection.specs.Cited.{Reading}
use Rattle.gts_replay.specs.declared.end.ReplayEnd.TheVariants as end
use Rattle.gts_accum.proofs.LawLemmas.{file-whole, file-early}

-- ---- the one reading of the capture

-- a capture that was read through its end is that of a file without a bad place
whole-one : (d : Directory) (file : List ℕ) (c : ℕ) (steps : List Step) → length d.circuits ≤ 100 → c < length d.circuits
    → IsWhole d (captured file c) steps → badplace file ≡ None
whole-one d file c steps few here w = go (badplace file) refl
  where
    go : (place : Option ℕ) → badplace file ≡ place → badplace file ≡ None
    go None none = none
    go (Some at) some = absurd (early_is_none Journaled d (captured file c) (steps_read c (reading file)) steps (length (captured file c)) few (file-early d file c at here some) w)

-- and one that ends early is that of a file with one, and ends with its bytes
record IsCutFile (d : Directory) (file : List ℕ) (c : ℕ) (steps : List Step) : Type 0 where
  place : ℕ
  bad : badplace file ≡ Some place
  read : Reading d (captured file c) steps (length (captured file c))

cut-one : (d : Directory) (file : List ℕ) (c at : ℕ) (steps : List Step) → length d.circuits ≤ 100 → c < length d.circuits
    → EndsEarly d (captured file c) steps at → IsCutFile d file c steps
cut-one d file c at steps few here early = go (badplace file) refl
  where
    go : (place : Option ℕ) → badplace file ≡ place → IsCutFile d file c steps
    go None none = absurd (early_is_none Journaled d (captured file c) steps (steps_read c (reading file)) at few early (file-whole d file c here none))
    go (Some place) some =
        let same = reads_once Journaled d (readable (captured file c)) steps (steps_read c (reading file)) at (length (captured file c)) few early.0 (file-early d file c place here some).0 in
        let P : ℕ → Type 0 = λ n. Reading d (captured file c) steps n in
        record { place = place; bad = some; read = subst P same.1 early.0 }

-- ---- the end

-- an end of the capture's run that is no early one is that of the file's
uncut : (r : ReplayEnd) (result : UnpackEnd) → ((at : ℕ) → r ≡ end.Capture at → ⊥) → result ≡ Ended r → IsEndOf r result
uncut (end.Capture at) result other is = absurd (other at refl)
uncut _ result other is = is

-- what a file's run is told to have met
told : {O W : Type 0} (meanings : Standing O W) (station observed : Type 0) (o : O) (h : List Entry) (r : ReplayEnd) (old new : W) (file left : List ℕ) (c : ℕ)
    → length (meanings.directory old).circuits ≤ 100 → c < length (meanings.directory old).circuits → observed
    → Ends meanings station Journaled o h observed r old new (captured file c) left → ((at : ℕ) → r ≡ end.Capture at → ⊥) → IsEndAt (badplace file) (Ended r)
told meanings station observed o h end.Done old new file left c few here tell ends other = grind (arith, common_steps, whole-one)
told meanings station observed o h (end.Capture at) old new file left c few here tell ends other = absurd (other at refl)
told meanings station observed o h _ old new file left c few here tell ends other = tt

-- the run of the capture didn't end early
pub from-end : {O W : Type 0} (meanings : Standing O W) (station observed : Type 0) (r : ReplayEnd) (old new : W) (file left : List ℕ) (c : ℕ)
    → length (meanings.directory old).circuits ≤ 100 → c < length (meanings.directory old).circuits → ((at : ℕ) → r ≡ end.Capture at → ⊥)
    → ((o : O) (h : List Entry) → StandsFor meanings o (length h) h old → Ends meanings station Journaled o h observed r old new (captured file c) left)
    → (now : List ℕ) → (r ≡ end.SourceFault → observed → IsLeft file now c left) → Unpacks meanings station observed (Ended r) old new file now c
from-end meanings station observed r old new file left c few here other ends now taken = record {
  replayed = r;
  left = left;
  is = uncut r (Ended r) other refl;
  ends = ends;
  place = λ o h stands tell. told meanings station observed o h r old new file left c few here tell (ends o h stands) other;
  source = λ e tell. inr (taken (cc) tell);
}

-- it did
pub from-cut : {O W : Type 0} (meanings : Standing O W) (station observed : Type 0) (at : ℕ) (last : UnpackEnd) (old new : W) (file left : List ℕ) (c : ℕ)
    → length (meanings.directory old).circuits ≤ 100 → c < length (meanings.directory old).circuits
    → ((o : O) (h : List Entry) → StandsFor meanings o (length h) h old → Ends meanings station Journaled o h observed (end.Capture at) old new (captured file c) left)
    → IsFileEnd last → (observed → IsPlaceMet (badplace file) last) → (now : List ℕ) → Unpacks meanings station observed last old new file now c
from-cut meanings station observed at (Bad p) old new file left c few here ends kind met now = record {
  replayed = end.Capture at;
  left = left;
  is = (p, refl);
  ends = ends;
  place = λ o h stands tell. elim (met tell p refl) [
    | inl some ↦ some
    | inr none ↦
        let k = (ends o h stands).capture at refl in
        let cut = cut-one (meanings.directory old) file c at k.steps few here (k.early tell) in
        absurd (let e = cut.bad in cc)
  ];
  source = λ e. absurd (cc);
}
from-cut meanings station observed at (Ended end.SourceFault) old new file left c few here ends kind met now = record {
  replayed = end.SourceFault;
  left = [];
  is = refl;
  ends = λ o h stands.
      let k = (ends o h stands).capture at refl in
      let text : captured file c ≡ captured file c ++ [] = sym (append-nil (captured file c)) in
      record {
        done = λ e. absurd (cc);
        capture = λ n e. absurd (cc);
        source_fault = λ e. record {
          steps = k.steps;
          taken = λ tell. record {
            taken = captured file c;
            text = text;
            read = (cut-one (meanings.directory old) file c at k.steps few here (k.early tell)).read;
          };
          stands = k.stands;
        };
        reopen = λ fault e. absurd (cc);
        compaction = λ fault e. absurd (cc);
        fault = λ fault e. absurd (cc);
        no_memory = λ e. absurd (cc);
      };
  place = λ o h stands tell. tt;
  source = λ e tell. inl refl;
}
from-cut meanings station observed at (Ended _) old new file left c few here ends kind met now = absurd kind

-- ---- causes

-- it has failed where that rose
pub has_failed : {S : Type 0} (old new : Ahead S) → whether_failed old ≡ 0 → Rose (whether_failed old) (whether_failed new) → new.failed ≡ true
has_failed old new none rose = go new.failed refl
  where
    go : (f : Bool) → new.failed ≡ f → new.failed ≡ true
    go true is = is
    go false is =
        let now : whether_failed new ≡ 0 = ap (λ (f : Bool). if f then 2 ^ 64 - 1 else 0) is in
        absurd (grind (arith, common_steps))

has_not : {S : Type 0} (new : Ahead S) → whether_failed new ≡ 0 → new.failed ≡ false
has_not new none = go new.failed refl
  where
    go : (f : Bool) → new.failed ≡ f → new.failed ≡ false
    go false is = is
    go true is =
        let now : whether_failed new ≡ 2 ^ 64 - 1 = ap (λ (f : Bool). if f then 2 ^ 64 - 1 else 0) is in
        absurd (omega (arith, now, none))

-- the run of a capture that is made of a source which is read ahead: the source's own count
pub cause-of-source : {S : Type 0} (faults : S → ℕ) (before : ℕ) (r : ReplayEnd) (disk disk_now say say_now : ℕ) (old new : Ahead S) → HasReplayCause r disk disk_now say say_now (whether_failed old) (whether_failed new)
    → old.failed ≡ false → IsSince faults before new → HasReplayCause r disk disk_now say say_now before (faults new.source)
cause-of-source faults before r disk disk_now say say_now old new k sound since =
    let none : whether_failed old ≡ 0 = ap (λ (f : Bool). if f then 2 ^ 64 - 1 else 0) sound in
    record {
      disk_later = k.disk_later;
      say_later = k.say_later;
      source_later = since.later;
      disk_failed = k.disk_failed;
      compaction_failed = k.compaction_failed;
      reopen_failed = k.reopen_failed;
      say_failed = k.say_failed;
      source_failed = λ e. since.rose (has_failed old new none (k.source_failed e));
      sound = λ u.
          let still = k.sound u in
          (still.0, still.1, since.still (has_not new (still.2 ∙ none)));
    }

pub cause-end : (r : ReplayEnd) (disk disk_now say say_now source source_now : ℕ) → HasReplayCause r disk disk_now say say_now source source_now
    → HasUnpackCause (Ended r) disk disk_now say say_now source source_now
cause-end r disk disk_now say say_now source source_now k = grind (arith, common_steps)

pub cause-cut : (r : ReplayEnd) (last : UnpackEnd) (disk disk_now say say_now source source_now later : ℕ)
    → HasReplayCause r disk disk_now say say_now source source_now → IsUnfailed r → IsFileEnd last
    → HasFileCause last source_now later
    → HasUnpackCause last disk disk_now say say_now source later
cause-cut r last disk disk_now say say_now source source_now later k cut is more = grind (arith, common_steps)
