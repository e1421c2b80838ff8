-- What each end of a file's run means for the command.
use Rattle.gts_app.proofs.Cited.{◌≡◌, ℕ, ◌<◌, ◌≤◌, List, [], length, Ok, Err, IsTrue, inl, inr, refl, sym, ap, subst, arith, Bad, Capture, Directory, Done, Ended, EndsIn, Engine, Entry, Feed, File, Ghosts as StationMeanings, HasNoCircuit, HasReplayCause, HasUnpackCause, InputFault, IsEndAt, IsEndOf, IsLeft, IsReadEnd, IsRefusal, IsStatusOf, IsUnfailed, IsUnfailedFile, Journaled, KeepsLaws, Need, NoMemory, Opens, OtherFeed, ReadsDirectory, ReplayEnd, SourceMeanings, Status, Stays, UnpackEnd, Unpacks, Usage, badplace, capture_meanings, captured, directory_of_bytes, handed, is_sound, keeps_one, origin_of, status_of, status_unpacked, switch_meanings, unpacked, world, common_steps}
use Rattle.gts_accum.specs.Unpack.{Unpacks as Runs}
use Rattle.gts_directory.specs.Directory as directories
use Rattle.gts_event.specs.declared.fault.SwitchFault.TheVariants as switch
use Rattle.gts_record.specs.declared.fault.OpenFault.TheVariants as opening
use Rattle.gts_replay.specs.declared.end.ReplayEnd.TheVariants as end
use Rattle.gts_app.proofs.EndLemmas.{Leaves}
use Rattle.gts_app.proofs.OpeningLemmas.{no_directory}
use Rattle.gts_app.proofs.RefusalLemmas.{refused, out_of_memory}
use Rattle.gts_app.proofs.UnreadLemmas.{new_ended, only_memory, same_directory}
use Rattle.gts_app.proofs.ReplayLemmas.{replays}

-- ---- a status by that of the capture's replay

status-is : (r : ReplayEnd) (result : UnpackEnd) → IsEndOf r result → IsStatusOf (status_of r) (status_unpacked result)
status-is (end.Capture at) result is = (is.0, ap status_unpacked is.1)
status-is (end.Reopen opening.NoMemory) result is = ap status_unpacked is
status-is (end.Compaction switch.NoMemory) result is = ap status_unpacked is
status-is (end.Fault switch.NoMemory) result is = ap status_unpacked is
status-is _ result is = ap status_unpacked is

-- which statuses the ends of a replay have, beside that of the end itself
abbrev IsOther : Status → ReplayEnd → Type 0
IsOther Done r = r ≡ end.Done
IsOther Usage r = ⊥
IsOther (File at) r = ⊥
IsOther (Feed at) r = ⊥
IsOther (OtherFeed index own fed) r = ⊥
IsOther InputFault r = r ≡ end.SourceFault
IsOther _ r = Unit {0}

is-other : (r : ReplayEnd) → IsOther (status_of r) r
is-other end.Done = refl
is-other end.SourceFault = refl
is-other (end.Reopen opening.NoMemory) = tt
is-other (end.Compaction switch.NoMemory) = tt
is-other (end.Fault switch.NoMemory) = tt
is-other _ = tt

other : (r : ReplayEnd) (s : Status) → status_of r ≡ s → IsOther s r
other r s is = let P : Status → Type 0 = λ x. IsOther x r in subst P is (is-other r)

no-words : (result : UnpackEnd) → status_unpacked result ≡ Usage → ⊥
no-words (Bad at) is = cc
no-words (Ended r) is = other r Usage is

bad-is : (result : UnpackEnd) (at : ℕ) → status_unpacked result ≡ File at → result ≡ Bad at
bad-is (Bad p) at is = let same : p ≡ at = cc in ap (λ (n : ℕ). Bad n) same
bad-is (Ended r) at is = absurd (other r (File at) is)

pub done-is : (result : UnpackEnd) → status_unpacked result ≡ Done → result ≡ Ended end.Done
done-is (Bad p) is = absurd (cc)
done-is (Ended r) is = ap (λ (x : ReplayEnd). Ended x) (other r Done is)

fault-is : (result : UnpackEnd) → status_unpacked result ≡ InputFault → result ≡ Ended end.SourceFault
fault-is (Bad p) is = absurd (cc)
fault-is (Ended r) is = ap (λ (x : ReplayEnd). Ended x) (other r InputFault is)

-- nothing was taken of a file
untouched : (file : List ℕ) (c : ℕ) → IsLeft file file c (captured file c)
untouched file c = record { taken = []; given = []; due = captured [] c; read = refl; capture = refl; part = refl; short = omega arith }

-- ---- causes

-- a run of a capture that no device ended is one of its file
unfailed-file : (r : ReplayEnd) (result : UnpackEnd) → IsEndOf r result → IsUnfailed r → IsUnfailedFile result
unfailed-file end.Done result is ends = subst IsUnfailedFile (sym is) tt
unfailed-file (end.Capture at) result is ends = subst IsUnfailedFile (sym is.1) tt
unfailed-file _ result is ends = absurd ends

replayed-cause : (r : ReplayEnd) (result : UnpackEnd) (disk disk_now say say_now source source_now : ℕ) → IsEndOf r result
    → HasUnpackCause result disk disk_now say say_now source source_now → HasReplayCause r disk disk_now say say_now source source_now
replayed-cause r result disk disk_now say say_now source source_now is k = grind (arith, common_steps, unfailed-file)

-- no end for want of a circuit that is there
present : (d : directories.Directory) (bytes : List ℕ) (c : ℕ) → c < length d.circuits → directory_of_bytes bytes ≡ Ok d → HasNoCircuit bytes c → ⊥
present d bytes c here read none = grind (arith, common_steps, same_directory)

-- ---- the run of a file

pub unpacks : {S P : Type 0} (source : SourceMeanings S) (w : StationMeanings P) (c : ℕ) (result : UnpackEnd) (od nd oc nc : S) (old : P) (first last : Engine P)
    → Opens source w (Ok first) od nd old
    → ((n : Need) (es : List Entry) → IsTrue (keeps_one first.directory) → IsTrue (is_sound first.directory n) → KeepsLaws first.directory n es)
    → Runs (switch_meanings w) w.observed source.observed result first last (source.left oc) (source.left nc) c
    → length first.directory.circuits ≤ 100 → c < length first.directory.circuits → (source.observed → directory_of_bytes (source.left od) ≡ Ok first.directory)
    → HasUnpackCause result (w.disk_faults first.station) (w.disk_faults last.station) (w.say_faults first.station) (w.say_faults last.station) (source.faults oc) (source.faults nc)
    → Leaves w last
    → Unpacks source w c (status_unpacked result) (world od oc old) (world nd nc last.station)
unpacks source w c result od nd oc nc old first last opens laws run narrow here read cause files =
    let place : source.observed → w.observed → IsEndAt (badplace (source.left oc)) result = λ observed told.
    let x = opens.opened first refl told in run.place (record { told = told; origin = origin_of w.calls first x.0 }) [] x.2.1 observed in
    record {
      words = λ is. absurd (no-words result is);
      replays = λ some. record {
        replayed = status_of run.replayed;
        is = status-is run.replayed result run.is;
        left = run.left;
        replays = replays source (capture_meanings source) w run.replayed od nd (unpacked (captured (source.left oc) c) oc) (unpacked run.left nc) old first last opens laws
            (λ told n stands. run.ends (record { told = told; origin = origin_of w.calls first n }) [] stands) narrow
            (replayed-cause run.replayed result _ _ _ _ (source.faults oc) (source.faults nc) run.is cause) files;
        source_fault = λ e observed. run.source (fault-is result e) observed;
      };
      accum = λ at is observed told. let P : UnpackEnd → Type 0 = λ e. IsEndAt (badplace (source.left oc)) e in subst P (bad-is result at is) (place observed told);
      done = λ is observed told. let P : UnpackEnd → Type 0 = λ e. IsEndAt (badplace (source.left oc)) e in subst P (done-is result is) (place observed told);
      circuit = λ observed none kept. absurd (present first.directory (source.left od) c here (read observed) none);
      directory_taken = opens.taken;
      directory_count = opens.later;
    }

-- ---- what ends it before

refusal-is : (s : Status) → IsRefusal s → IsStatusOf s s
refusal-is (Capture at) ends = absurd ends
refusal-is _ ends = refl

-- the directory was not accepted, or the journal not opened
pub unbegun : {S P : Type 0} (source : SourceMeanings S) (w : StationMeanings P) (c : ℕ) (status : Status) (od nd oc : S) (old new : P)
    → Opens source w (Err (handed status new)) od nd old
    → (source.observed → HasNoCircuit (source.left od) c → Stays (source.faults od) (source.faults nd) → EndsIn Usage status)
    → Unpacks source w c status (world od oc old) (world nd oc new)
unbegun source w c status od nd oc old new h circuit =
    let ends : IsRefusal status = (h.refused status new refl).ends in
    let file = unpacked (captured (source.left oc) c) oc in
    record {
      words = λ e. absurd (subst IsRefusal e ends);
      replays = λ some. record {
        replayed = status;
        is = refusal-is status ends;
        left = captured (source.left oc) c;
        replays = refused Journaled source (capture_meanings source) w status od nd file old new h;
        source_fault = λ e observed. inr (untouched (source.left oc) c);
      };
      accum = λ at e. absurd (subst IsRefusal e ends);
      done = λ e. absurd (subst IsRefusal e ends);
      circuit = circuit;
      directory_taken = h.taken;
      directory_count = h.later;
    }

-- the directory was not accepted
pub unaccepted : {S P : Type 0} (source : SourceMeanings S) (w : StationMeanings P) (c : ℕ) (status : Status) (od nd oc : S) (old : P)
    → ReadsDirectory source (Err status) od nd → Unpacks source w c status (world od oc old) (world nd oc old)
unaccepted source w c status od nd oc old h =
    unbegun source w c status od nd oc old old (no_directory source w status od nd old h)
    (λ observed none kept. inr (only_memory (λ fault. Directory fault) IsReadEnd new_ended source status od nd h observed none.0 none.1 kept))

-- the journal was not opened, under a directory that has the circuit
pub unopened : {S P : Type 0} (source : SourceMeanings S) (w : StationMeanings P) (c : ℕ) (status : Status) (d : directories.Directory) (od nd oc : S) (old new : P)
    → Opens source w (Err (handed status new)) od nd old
    → c < length d.circuits → (source.observed → directory_of_bytes (source.left od) ≡ Ok d)
    → Unpacks source w c status (world od oc old) (world nd oc new)
unopened source w c status d od nd oc old new h here read =
    unbegun source w c status od nd oc old new h (λ observed none kept. absurd (present d (source.left od) c here (read observed) none))

-- ---- there was no memory to read the words

pub unread : {S P : Type 0} (source : SourceMeanings S) (w : StationMeanings P) (c : ℕ) (od oc : S) (old : P)
    → Unpacks source w c NoMemory (world od oc old) (world od oc old)
unread source w c od oc old =
    let file = unpacked (captured (source.left oc) c) oc in
    record {
      words = λ is. absurd (cc);
      replays = λ some. record {
        replayed = NoMemory;
        is = refl;
        left = captured (source.left oc) c;
        replays = out_of_memory Journaled source (capture_meanings source) w od od file old old (λ told. inr (inl refl)) refl (omega arith)
            (λ observed. ([], refl, omega arith)) (omega arith);
        source_fault = λ e observed. inr (untouched (source.left oc) c);
      };
      accum = λ at is. absurd (cc);
      done = λ is. absurd (cc);
      circuit = λ observed none kept. inr refl;
      directory_taken = λ observed. ([], refl, omega arith);
      directory_count = omega arith;
    }
