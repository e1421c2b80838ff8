-- What `count` comes to, from the opening, the run of the capture and the saying of the table.
use Rattle.gts_app.proofs.Cited.{◌≡◌, ℕ, ◌≤◌, List, [], ◌∷◌, length, Result, Ok, Err, IsTrue, inl, inr, refl, sym, ap, subst, ◌∙◌, arith, Behind, Breaks, CountedParts, CountsEngine, CountsTraffic, Did, Done, Ends, EndsWithoutTable, Engine, Entry, Failed, Files, Ghosts as StationMeanings, HasCause, HasReplayCause, IsRefusal, KeepsLaws, Need, NoMemory, ObservedOrigin, Opens, OpensWith, Origin, OutputFault, ReplayEnd, Replays, Rose, Says, SaysTable, ShowsTable, SourceMeanings, StandsFor, Status, Traffic, Tries, World, after_all, begun, compacted_at, counted, handed, history, is_sound, keeps_one, meanings_by, need, origin_of, seen, status_of, status_said, switch_meanings, table, table_behind, used_at, world}
use Rattle.gts_directory.specs.Directory as directories
use Rattle.gts_replay.specs.declared.end.ReplayEnd.TheVariants as end
use Rattle.gts_app.proofs.CompactedLemmas.{compacted_is, counts, counts_within}
use Rattle.gts_app.proofs.CountedLemmas.{ends_below}
use Rattle.gts_app.proofs.EndLemmas.{Leaves, history_done, none_unsaid, none_doubt, none_gathered}
use Rattle.gts_app.proofs.GenerateLemmas.{as_seen}
use Rattle.gts_app.proofs.RefusalLemmas.{refused, out_of_memory}
use Rattle.gts_app.proofs.ReplayLemmas.{Run, replays, steps_went, was_done}
use Rattle.gts_app.proofs.ShowLemmas.{goes_on}

-- ---- no table comes behind it

-- an end of the run that isn't that it was done is the command's
as_run : {S P : Type 0} (source : SourceMeanings S) (w : StationMeanings P) (status : Status) (old : World S S P) (nd nc : S) (new : P) → (status ≡ Done → ⊥)
    → Replays Traffic source source w status old (world nd nc new) → CountsTraffic source w status old (world nd nc new)
as_run source w status old nd nc new other r = record {
  replayed = status;
  before = new;
  replays = r;
  table = λ is. absurd (other is);
  ended = λ others. (refl, refl);
  done = λ is. absurd (other is);
  complete = λ observed. r.complete observed observed;
  station_counts = r.station_counts;
}

-- the directory was not accepted, or the journal not opened
pub not_counted : {S P : Type 0} (source : SourceMeanings S) (w : StationMeanings P) (status : Status) (od nd oc : S) (old new : P)
    → Opens source w (Err (handed status new)) od nd old → CountsTraffic source w status (world od oc old) (world nd oc new)
not_counted source w status od nd oc old new h =
    as_run source w status (world od oc old) nd oc new (λ done. subst IsRefusal done (h.refused status new refl).ends)
    (refused Traffic source source w status od nd oc old new h)

-- there was no memory to read the words
pub unread : {S P : Type 0} (source : SourceMeanings S) (w : StationMeanings P) (od oc : S) (old : P)
    → CountsTraffic source w NoMemory (world od oc old) (world od oc old)
unread source w od oc old =
    as_run source w NoMemory (world od oc old) od oc old (λ done. cc)
    (out_of_memory Traffic source source w od od oc old old (λ told. inr (inl refl)) refl (omega arith) (λ observed. ([], refl, omega arith)) (omega arith))

-- there was none for the numbers
pub without_numbers : {S P : Type 0} (source : SourceMeanings S) (w : StationMeanings P) (od nd oc : S) (old : P) (e : Engine P)
    → Opens source w (Ok e) od nd old → (at : P) → at ≡ e.station → CountsTraffic source w NoMemory (world od oc old) (world nd oc at)
without_numbers {S} {P} source w od nd oc old e h at same =
    subst (λ (p : P). CountsTraffic source w NoMemory (world od oc old) (world nd oc p)) (sym same)
    (as_run source w NoMemory (world od oc old) nd oc e.station (λ done. cc)
    (out_of_memory Traffic source source w od nd oc old e.station (λ told. inl (h.opened e refl told).2.0.synced) (h.kept e refl).1 (omega (arith, (h.kept e refl).0)) h.taken h.later))

-- ---- a capture was run through the switch that counts

module _ {S P W : Type 0} (parts : W → CountedParts (Engine P)) (source : SourceMeanings S) (w : StationMeanings P) (e : ReplayEnd) (od nd oc nc : S) (old : P) (first last : W)
    (opens : Opens source w (Ok (parts first).switch) od nd old)
    (counts_engine : CountsEngine (parts first))
    (laws : (n : Need) (es : List Entry) → IsTrue (keeps_one (parts first).switch.directory) → IsTrue (is_sound (parts first).switch.directory n)
    → KeepsLaws (parts first).switch.directory n es)
    (ends : (o : ObservedOrigin w.observed) (h : List Entry) → StandsFor (meanings_by parts (switch_meanings w)) o (length h) h first
    → Ends (meanings_by parts (switch_meanings w)) w.observed Traffic o h source.observed e first last (source.left oc) (source.left nc))
    (narrow : length (parts first).switch.directory.circuits ≤ 100)
    (cause : HasReplayCause e (w.disk_faults (parts first).switch.station) (w.disk_faults (parts last).switch.station)
    (w.say_faults (parts first).switch.station) (w.say_faults (parts last).switch.station) (source.faults oc) (source.faults nc))
    (files : Leaves w (parts last).switch) where
  abbrev engine : Engine P
  engine = (parts first).switch

  abbrev behind : Engine P
  behind = (parts last).switch

  abbrev origin : w.observed → Need → ObservedOrigin w.observed
  origin told n = record { told = told; origin = origin_of w.calls engine n }

  -- its numbers are those of the need with which the history begins
  begins : (told : w.observed) (n : Need) → StandsFor (switch_meanings w) (origin told n) 0 [] engine
      → StandsFor (meanings_by parts (switch_meanings w)) (origin told n) 0 [] first
  begins told n s =
      let keeps = none_gathered (switch_meanings w) (origin told n) engine s.stands in
      record {
        start = s.start;
        stands = record {
          front = [];
          events = [];
          is = refl;
          within = omega arith;
          gathers = (keeps, counts_engine (begun n) [] (keeps.core (goes_on engine.stopped keeps.failed)) s.start.ordered);
        };
      }

  below : (told : w.observed) (n : Need) → StandsFor (switch_meanings w) (origin told n) 0 [] engine
      → Ends (switch_meanings w) w.observed Traffic (origin told n) [] source.observed e engine behind (source.left oc) (source.left nc)
  below told n s =
      ends_below parts (switch_meanings w) w.observed Traffic (origin told n) [] source.observed first last e (source.left oc) (source.left nc)
      (ends (origin told n) [] (begins told n s))

  run : Replays Traffic source source w (status_of e) (world od oc old) (world nd nc behind.station)
  run = replays source source w e od nd oc nc old engine behind opens laws below narrow cause files

  -- ---- it was not done

  pub ended : (status : Status) → EndsWithoutTable e status → (at : P) → at ≡ behind.station
      → CountsTraffic source w status (world od oc old) (world nd nc at)
  ended status without at same = subst (λ (p : P). CountsTraffic source w status (world od oc old) (world nd nc p)) (sym same) (elim without [
    | inl none ↦ record {
      replayed = status_of e;
      before = behind.station;
      replays = run;
      table = λ is. subst (λ (s : Status). SaysTable source w s behind.station (world od oc old) (world nd nc behind.station)) (sym none.1) refl;
      ended = λ other. absurd (other (ap status_of none.0));
      done = λ is. let both : NoMemory ≡ Done = sym none.1 ∙ is in absurd (cc);
      complete = λ observed told d n read opened kept_directory kept_disk steps whole room kept_capture kept_say. inr none.1;
      station_counts = run.station_counts;
    }
    | inr other ↦
        subst (λ (s : Status). CountsTraffic source w s (world od oc old) (world nd nc behind.station)) (sym other.1)
        (as_run source w (status_of e) (world od oc old) nd nc behind.station (λ done. other.0 (was_done e done)) run)
  ])

  -- ---- it was done

  module _ (is : e ≡ end.Done) (text : List ℕ) (shows : ShowsTable (switch_meanings w) (parts last) text) where
    -- the text is the table of the need where the history ends
    is_table : (told : w.observed) (n : Need) (s : StandsFor (switch_meanings w) (origin told n) 0 [] engine)
        → let o : Origin = origin_of w.calls engine n in
        text ≡ table_behind o (history o ((ends (origin told n) [] (begins told n s)).done is).steps)
    is_table told n s =
        let o : Origin = origin_of w.calls engine n in
        let x = (ends (origin told n) [] (begins told n s)).done is in
        let all : List Entry = history o x.steps in
        let at : ObservedOrigin w.observed = compacted_at (switch_meanings w) (origin told n) all (counts o x.steps) in
        let T : directories.Directory → Need → Type 0 = λ d m. text ≡ table d (need d (after_all d (begun m) all)) in
        let here : T behind.directory at.origin.start = shows at all x.stands (none_unsaid all (history_done o x.steps)) (none_doubt all (history_done o x.steps)) in
        subst (λ (t : ObservedOrigin w.observed). T t.origin.directory t.origin.start)
        (compacted_is w (origin told n) all (counts o x.steps) (counts_within o x.steps))
        (subst (λ (d : directories.Directory). T d at.origin.start) x.stands.0.directory here)

    tabled : (new : P) → (w.observed → seen (w.calls new) ≡ seen (w.calls behind.station)) → (OfTable : List ℕ → Type 0) → (w.observed → OfTable text)
        → Behind source w behind.station (world od oc old) (world nd nc new) OfTable
    tabled new same OfTable of = λ observed given told.
        let x = opens.opened engine refl told in
        let n : Need = x.0 in
        let o : Origin = origin_of w.calls engine n in
        let done = (ends (origin told n) [] (begins told n x.2.1)).done is in
        let r : Run Traffic source source w e od oc nc old engine behind = record {
          n = n;
          told = told;
          read = x.1;
          origin = x.2.0;
          ends = below told n x.2.1;
          laws = λ es. laws n es x.2.1.start.keeps x.2.0.sound;
          files = files;
        } in
        let went = steps_went source source w e od oc nc old engine behind r done.steps done.stands.0 in (
          o,
          x.1 observed,
          x.2.0,
          (
            done.steps,
            done.whole given,
            went,
            subst (λ (fs : Files). OpensWith o.directory fs (used_at (counted o done.steps) (history o done.steps))) (sym (same told)) (went.in_use refl),
            subst OfTable (is_table told n x.2.1) (of told),
          ),
        )

    counted_so : (at new : P) → at ≡ behind.station → (w.observed → w.calls new ≡ Did (Says 0 text) ∷ w.calls at) → w.say_faults at ≤ w.say_faults new
        → w.disk_faults new ≡ w.disk_faults at → CountsTraffic source w Done (world od oc old) (world nd nc new)
    counted_so at new same said later disk =
        let now : w.observed → w.calls new ≡ Did (Says 0 text) ∷ w.calls behind.station
        = λ told. said told ∙ ap (λ (p : P). Did (Says 0 text) ∷ w.calls p) same in
        let table = tabled new (λ told. ap seen (now told)) (λ (t : List ℕ). w.calls new ≡ Did (Says 0 t) ∷ w.calls behind.station) now in
        record {
          replayed = status_of e;
          before = behind.station;
          replays = run;
          table = λ _. table;
          ended = λ other. absurd (other (ap status_of is));
          done = λ _. table;
          complete = λ observed told d n read opened kept_directory kept_disk steps whole room kept_capture kept_say. inl refl;
          station_counts = (
            omega (arith, run.station_counts.0, later, ap (λ (p : P). w.say_faults p) same),
            omega (arith, run.station_counts.1, disk, ap (λ (p : P). w.disk_faults p) same),
          );
        }

    not_told : (at new : P) → at ≡ behind.station → (w.observed → Breaks (Says 0 text) (w.calls at) (w.calls new)) → Rose (w.say_faults at) (w.say_faults new)
        → w.say_faults at ≤ w.say_faults new → w.disk_faults new ≡ w.disk_faults at → CountsTraffic source w OutputFault (world od oc old) (world nd nc new)
    not_told at new same broke rose later disk =
        let now : w.observed → Breaks (Says 0 text) (w.calls behind.station) (w.calls new)
        = λ told. subst (λ (p : P). Breaks (Says 0 text) (w.calls p) (w.calls new)) same (broke told) in
        let rose_here : Rose (w.say_faults behind.station) (w.say_faults new) = subst (λ (p : P). Rose (w.say_faults p) (w.say_faults new)) same rose in
        record {
          replayed = status_of e;
          before = behind.station;
          replays = run;
          table = λ _. (
            rose_here,
            tabled new (λ told. as_seen text (w.calls behind.station) (w.calls new) (now told))
                (λ (t : List ℕ). Breaks (Says 0 t) (w.calls behind.station) (w.calls new)) now,
          );
          ended = λ other. absurd (other (ap status_of is));
          done = λ of. absurd (cc);
          complete = λ observed told d n read opened kept_directory kept_disk steps whole room kept_capture kept_say.
              absurd (kept_say (omega (arith, rose_here, run.station_counts.0)));
          station_counts = (
            omega (arith, run.station_counts.0, later, ap (λ (p : P). w.say_faults p) same),
            omega (arith, run.station_counts.1, disk, ap (λ (p : P). w.disk_faults p) same),
          );
        }

    pub said_so : (said : Result (Unit {0}) Failed) (at new : P) → at ≡ behind.station → (w.observed → Tries (Says 0 text) said (w.calls at) (w.calls new))
        → HasCause said (w.say_faults at) (w.say_faults new) → w.disk_faults new ≡ w.disk_faults at
        → CountsTraffic source w (status_said said) (world od oc old) (world nd nc new)
    said_so (Ok _) at new same tries cause disk = counted_so at new same tries cause.later disk
    said_so (Err _) at new same tries cause disk = not_told at new same tries (cause.failed refl) cause.later disk
