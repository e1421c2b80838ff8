-- What `check` comes to, from the reading, the text and the saying of it.
use Rattle.gts_app.proofs.Cited.{◌≡◌, ◌⊎◌, ◌∷◌, ◌≤◌, ℕ, List, Result, Ok, Err, inl, inr, refl, ap, arith, Breaks, Call, Did, Directory, Done, Failed, Files, Ghosts as StationMeanings, InspectedAs, Inspects, IsReadEnd, KeepsFiles, NoMemory, OutputFault, ReadsDirectory, Rose, Says, SourceMeanings, Status, Tries, Usage, seen, status_said, world, common_steps}
use Rattle.gts_traits.specs.Cited.{HasCause}
use Rattle.gts_directory.specs.Directory as directories
use Rattle.gts_app.proofs.GenerateLemmas.{as_seen}
use Rattle.gts_app.proofs.UnreadLemmas.{by_end, new_ended}

-- ---- where there is no directory

unread_keeps : {S P : Type 0} (source : SourceMeanings S) (station : StationMeanings P) (status : Status) (od nd oc : S) (at : P)
    → ReadsDirectory source (Err status) od nd → KeepsFiles source station (world od oc at) (world nd oc at)
unread_keeps source station status od nd oc at h = grind (arith, common_steps)

pub inspect_unread : {S P : Type 0} (source : SourceMeanings S) (station : StationMeanings P) (status : Status) (od nd oc : S) (at : P)
    → ReadsDirectory source (Err status) od nd → Inspects source station status (world od oc at) (world nd oc at)
inspect_unread source station status od nd oc at h = record {
  means = by_end (λ fault. Directory fault) IsReadEnd new_ended source status od nd h (λ s. InspectedAs source station s (world od oc at) (world nd oc at))
      (λ fault is. ((refl, refl), is)) (λ rose. ((refl, refl), rose)) (refl, refl);
  keeps = unread_keeps source station status od nd oc at h;
}

pub uninspected : {S P : Type 0} (source : SourceMeanings S) (station : StationMeanings P) (od oc : S) (at : P)
    → Inspects source station NoMemory (world od oc at) (world od oc at)
uninspected source station od oc at = record { means = (refl, refl); keeps = grind (arith, common_steps) }

-- ---- where there is one

module _ {S P : Type 0} (source : SourceMeanings S) (station : StationMeanings P) (d : directories.Directory) (od nd oc : S) (old : P)
    (h : ReadsDirectory source (Ok d) od nd) where
  -- nothing was said
  read_keeps : KeepsFiles source station (world od oc old) (world nd oc old)
  read_keeps = grind (arith, common_steps)

  pub inspect_silent : (status : Status) → (status ≡ Usage) ⊎ (status ≡ NoMemory)
      → Inspects source station status (world od oc old) (world nd oc old)
  inspect_silent Usage ends = record { means = ((refl, refl), λ observed. (d, h.read observed d refl)); keeps = read_keeps }
  inspect_silent NoMemory ends = record { means = (refl, refl); keeps = read_keeps }
  inspect_silent _ (inl is) = absurd (cc is)
  inspect_silent _ (inr is) = absurd (cc is)

  -- a text was said, or saying it failed
  module _ (new : P) (text : List ℕ) (disk : station.disk_faults new ≡ station.disk_faults old) where
    said_files : (r : Result (Unit {0}) Failed) → Tries (Says 0 text) r (station.calls old) (station.calls new)
        → (k : ℕ) → seen (station.calls new) k ≡ seen (station.calls old) k
    said_files (Ok done) told k = ap (λ (calls : List Call). seen calls k) told
    said_files (Err fault) told k = ap (λ (files : Files). files k) (as_seen text (station.calls old) (station.calls new) told)

    pub inspect_said : (r : Result (Unit {0}) Failed) → (station.observed → Tries (Says 0 text) r (station.calls old) (station.calls new))
        → HasCause r (station.say_faults old) (station.say_faults new)
        → Inspects source station (status_said r) (world od oc old) (world nd oc new)
    inspect_said r told cause = record {
      means = go r told cause;
      keeps = record {
        taken = h.taken;
        source_counts = (h.cause.later, omega arith);
        station_counts = (cause.later, disk);
        files = λ observed. said_files r (told observed);
      };
    }
      where
        go : (r : Result (Unit {0}) Failed) → (station.observed → Tries (Says 0 text) r (station.calls old) (station.calls new))
            → HasCause r (station.say_faults old) (station.say_faults new)
            → InspectedAs source station (status_said r) (world od oc old) (world nd oc new)
        go (Ok done) told cause = (λ observed. (d, h.read observed d refl), refl, λ observed. (text, told observed))
        go (Err fault) told cause = (λ observed. (d, h.read observed d refl), refl, cause.failed refl, λ observed. (text, told observed))
