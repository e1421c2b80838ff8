-- What `follow` comes to, from the directory and what was made of the feed.
use Rattle.gts_app.proofs.Cited.{◌≡◌, ◌⊎◌, ℕ, ◌-◌, List, [], Result, Ok, Err, inl, inr, refl, sym, ap, subst, ◌∙◌, arith, Answers, ComesTo, Directory, EachImageReads, EachOpens, EndsAs, Files, FollowEnd, FollowedAs, FollowsFeed, Ghosts as StationMeanings, HasEndCounts, IsEnd, IsNamedEnd, IsOfFiles, IsReadEnd, LeavesAlone, LeavesUnopened, Need, NoMemory, OnlySyncs, OpenFault, Read, ReadsDirectory, RefusedBy, Rose, SourceMeanings, State, Status, TakenAs, TakesFeed, comes_to, directory_of_bytes, files_read, need, opened_of, opens, own_seals, read_after, restarted, said_by, seen, selected_bytes, state_after, status_followed, taken, world, written, Taken}
use Rattle.gts_directory.specs.Directory as directories
use Rattle.gts_record.specs.declared.fault.OpenFault.TheVariants as opening
use Rattle.gts_standby.specs.declared.end.FollowEnd.TheVariants as follow
use Rattle.gts_app.proofs.UnreadLemmas.{by_end, new_ended, no_fault, only_memory, same_directory}

-- ---- there is no directory

pub unfollowed : {S P : Type 0} (source : SourceMeanings S) (station : StationMeanings P) (status : Status) (od nd oc : S) (at : P)
    → ReadsDirectory source (Err status) od nd → FollowsFeed source station status (world od oc at) (world nd oc at)
unfollowed source station status od nd oc at h = record {
  means = by_end (λ fault. Directory fault) IsReadEnd new_ended source status od nd h (λ s. FollowedAs source station s (world od oc at) (world nd oc at))
      (λ fault is. ((refl, refl), is)) (λ rose. inl ((refl, refl), rose)) tt;
  moments = λ observed told d read taken comes. inl (inr (inl refl));
  turned_away = λ observed fault is. (refl, refl);
  unopened = λ observed told d fault found is. (inr (inl refl), refl);
  complete = λ observed told d read taken comes calm_directory calm_feed calm_disk. inr (only_memory (λ fault. Directory fault) IsReadEnd new_ended source status od nd h observed d comes.0 calm_directory);
  silent = λ told. refl;
  directory_taken = h.taken;
  source_counts = (h.cause.later, omega arith);
  station_counts = (refl, omega arith);
}

-- ---- there is one

-- an end of the feed is that of what it comes to
ends_of : (answer : FollowEnd) → IsEnd answer → (t : Taken) → Answers answer (Ok t) → EndsAs answer t.end
ends_of follow.Done is t answers = answers
ends_of (follow.Feed at) is t answers = answers
ends_of (follow.Diverged index own fed) is t answers = answers
ends_of _ is t answers = absurd is

-- and comes only where the files open
none_of : (answer : FollowEnd) → IsEnd answer → (fault : OpenFault) → Answers answer (Err fault) → ⊥
none_of follow.Done is fault answers = answers
none_of (follow.Feed at) is fault answers = answers
none_of (follow.Diverged index own fed) is fault answers = answers
none_of _ is fault answers = is

module _ (d : directories.Directory) (files : Files) (fed : List ℕ) where
  -- what it comes to, by what the files open to
  abbrev come_of : Read → Result Taken OpenFault
  come_of r = elim r as (λ _. Result Taken OpenFault) [
    | Err fault ↦ Err fault
    | Ok read ↦ Ok (taken written d read.0 (read.1 - 1) read.2 (own_seals d (selected_bytes files)) fed)
  ]

  abbrev need_of_read : Read → Result Need OpenFault
  need_of_read r = elim (opened_of r) as (λ _. Result Need OpenFault) [ Err f ↦ Err f | Ok opened ↦ Ok (need d (restarted d opened.0)) ]

  unopened : (fault : OpenFault) → comes_to d files fed ≡ Err fault → opens d files ≡ Err fault
  unopened fault is = ap need_of_read (go (files_read written d files) refl)
    where
      go : (r : Read) → files_read written d files ≡ r → files_read written d files ≡ Err fault
      go (Err other) e =
          let both : ◌≡◌ {A = Result Taken OpenFault} (Err other) (Err fault) = sym (ap come_of e) ∙ is in
          let same : other ≡ fault = cc in
          e ∙ ap (λ (f : OpenFault). Err f) same
      go (Ok read) e = let both : come_of (Ok read) ≡ Err fault = sym (ap come_of e) ∙ is in absurd (cc)

  opened_so : (t : Taken) → comes_to d files fed ≡ Ok t → (s : State) × (used : ℕ) × (last : List ℕ) × (files_read written d files ≡ Ok (s, used, last))
  opened_so t is = go (files_read written d files) refl
    where
      go : (r : Read) → files_read written d files ≡ r → (s : State) × (used : ℕ) × (last : List ℕ) × (files_read written d files ≡ Ok (s, used, last))
      go (Err fault) e = let both : ◌≡◌ {A = Result Taken OpenFault} (Err fault) (Ok t) = sym (ap come_of e) ∙ is in absurd (cc)
      go (Ok read) e = (read.0, read.1, read.2, e)

module _ {S P : Type 0} (source : SourceMeanings S) (station : StationMeanings P) (d : directories.Directory) (answer : FollowEnd) (od nd oc nc : S) (old new : P)
    (h : ReadsDirectory source (Ok d) od nd)
    (answers : station.observed → source.observed → Answers answer (comes_to d (seen (station.calls old)) (source.left oc)))
    (added : station.observed → source.observed → (s : State) (used : ℕ) (last : List ℕ) (t : Taken) → files_read written d (seen (station.calls old)) ≡ Ok (s, used, last)
    → comes_to d (seen (station.calls old)) (source.left oc) ≡ Ok t → IsEnd answer
    → opens d (seen (station.calls new)) ≡ Ok (need d (restarted d (state_after d s t))))
    (records : station.observed → source.observed → (read : State × ℕ × List ℕ) (t : Taken) → files_read written d (seen (station.calls old)) ≡ Ok read
    → comes_to d (seen (station.calls old)) (source.left oc) ≡ Ok t → IsEnd answer → files_read written d (seen (station.calls new)) ≡ Ok (read_after d read t))
    (kept : station.observed → source.observed → (read : State × ℕ × List ℕ) (t : Taken) → files_read written d (seen (station.calls old)) ≡ Ok read
    → comes_to d (seen (station.calls old)) (source.left oc) ≡ Ok t → IsEnd answer → EachImageReads d (station.calls new) (read_after d read t))
    (moments : station.observed → source.observed → (read : State × ℕ × List ℕ) (t : Taken) → files_read written d (seen (station.calls old)) ≡ Ok read
    → comes_to d (seen (station.calls old)) (source.left oc) ≡ Ok t → EachOpens d read t (station.calls old) (station.calls new))
    (alone : station.observed → LeavesUnopened d (station.calls old) (station.calls new) (nc ≡ oc))
    (done : source.observed → answer ≡ follow.Done → source.left nc ≡ [])
    (refused : station.observed → source.observed → LeavesAlone answer (station.calls old) (station.calls new) (nc ≡ oc))
    (named : (fault : OpenFault) → answer ≡ follow.Open fault → IsOfFiles fault)
    (silent : station.observed → said_by (station.calls new) ≡ said_by (station.calls old))
    (counts : HasEndCounts station source answer old new oc nc) where
  read : source.observed → directory_of_bytes (source.left od) ≡ Ok d
  read observed = h.read observed d refl

  takes : IsEnd answer → TakenAs answer source station (world od oc old) (world nd nc new)
  takes is = λ observed told. (d, read observed, go observed told (comes_to d (seen (station.calls old)) (source.left oc)) refl)
    where
      go : source.observed → station.observed → (r : Result Taken OpenFault) → comes_to d (seen (station.calls old)) (source.left oc) ≡ r
          → TakesFeed d (station.calls old) (station.calls new) (source.left oc) answer
      go observed told (Err fault) e = absurd (none_of answer is fault (subst (Answers answer) e (answers told observed)))
      go observed told (Ok t) e =
          let x = opened_so d (seen (station.calls old)) (source.left oc) t e in
          record {
            state = x.0;
            used = x.1;
            last = x.2;
            read = x.3;
            taken = t;
            comes = e;
            ends = ends_of answer is t (subst (Answers answer) e (answers told observed));
            opened = added told observed x.0 x.1 x.2 t x.3 e is;
            records = records told observed (x.0, x.1, x.2) t x.3 e is;
            kept = kept told observed (x.0, x.1, x.2) t x.3 e is;
          }

  refused_by : (fault : OpenFault) → answer ≡ follow.Open fault → RefusedBy fault source station (world od oc old) (world nd nc new)
  refused_by fault e =
      let alone : source.observed → station.observed → LeavesAlone (follow.Open fault) (station.calls old) (station.calls new) (nc ≡ oc) =
      λ observed told. subst (λ (a : FollowEnd). LeavesAlone a (station.calls old) (station.calls new) (nc ≡ oc)) e (refused told observed) in
      record {
        opened = λ observed told.
            let come : Result Taken OpenFault = comes_to d (seen (station.calls old)) (source.left oc) in
            (d, read observed, unopened d (seen (station.calls old)) (source.left oc) fault (subst (λ (a : FollowEnd). Answers a come) e (answers told observed)));
        only_syncs = λ observed told. (alone observed told).0;
        unread = λ observed told. (alone observed told).1;
      }

  means : (a : FollowEnd) → answer ≡ a → FollowedAs source station (status_followed a) (world od oc old) (world nd nc new)
  means follow.Done e = (
    subst (λ (a : FollowEnd). TakenAs a source station (world od oc old) (world nd nc new)) e (takes (subst IsEnd (sym e) tt)),
    λ observed. done observed e,
  )
  means (follow.Feed at) e = subst (λ (a : FollowEnd). TakenAs a source station (world od oc old) (world nd nc new)) e (takes (subst IsEnd (sym e) tt))
  means (follow.Diverged index own fed) e =
      subst (λ (a : FollowEnd). TakenAs a source station (world od oc old) (world nd nc new)) e (takes (subst IsEnd (sym e) tt))
  means (follow.Open opening.DiskFault) e = absurd (named opening.DiskFault e)
  means (follow.Open opening.NoMemory) e = absurd (named opening.NoMemory e)
  means (follow.Open fault) e = refused_by fault e
  means follow.SourceFault e = inr (counts.source_fault e)
  means follow.DiskFault e = counts.disk_fault e
  means follow.NoMemory e = tt

  -- the directory that was read is this one
  under : (X : directories.Directory → Type 0) → source.observed → (e : directories.Directory) → directory_of_bytes (source.left od) ≡ Ok e → X e → X d
  under X observed e is holds = subst X (same_directory e d (directory_of_bytes (source.left od)) is (read observed)) holds

  each_moment : source.observed → station.observed → (e : directories.Directory) (from : State × ℕ × List ℕ) (t : Taken) → ComesTo source station (world od oc old) e from t
      → EachOpens e from t (station.calls old) (station.calls new)
  each_moment observed told e from t comes =
      let same : d ≡ e = same_directory d e (directory_of_bytes (source.left od)) (read observed) comes.0 in
      let F : directories.Directory → Type 0 = λ x. files_read written x (seen (station.calls old)) ≡ Ok from in
      let C : directories.Directory → Type 0 = λ x. comes_to x (seen (station.calls old)) (source.left oc) ≡ Ok t in
      subst (λ (x : directories.Directory). EachOpens x from t (station.calls old) (station.calls new)) same
      (moments told observed from t (subst F (sym same) comes.1) (subst C (sym same) comes.2))

  left_alone : source.observed → station.observed → (e : directories.Directory) (fault : OpenFault) → directory_of_bytes (source.left od) ≡ Ok e
      → files_read written e (seen (station.calls old)) ≡ Err fault → OnlySyncs (station.calls old) (station.calls new) × (nc ≡ oc)
  left_alone observed told e fault is refused = alone told fault (under (λ (x : directories.Directory). files_read written x (seen (station.calls old)) ≡ Err fault) observed e is refused)

  ended_so : source.observed → station.observed → (e : directories.Directory) (from : State × ℕ × List ℕ) (t : Taken) → ComesTo source station (world od oc old) e from t
      → (Rose (source.faults oc) (source.faults nc) → ⊥) → (Rose (station.disk_faults old) (station.disk_faults new) → ⊥)
      → ((a : FollowEnd) × IsEnd a × (status_followed answer ≡ status_followed a) × EndsAs a t.end) ⊎ (status_followed answer ≡ NoMemory)
  ended_so observed told e from t comes calm_feed calm_disk = go answer refl
    where
      at : comes_to d (seen (station.calls old)) (source.left oc) ≡ Ok t
      at = under (λ (x : directories.Directory). comes_to x (seen (station.calls old)) (source.left oc) ≡ Ok t) observed e comes.0 comes.2

      so : (a : FollowEnd) → answer ≡ a → Answers a (Ok t)
      so a is = subst (λ (x : FollowEnd). Answers x (Ok t)) is (subst (Answers answer) at (answers told observed))

      go : (a : FollowEnd) → answer ≡ a → ((a : FollowEnd) × IsEnd a × (status_followed answer ≡ status_followed a) × EndsAs a t.end) ⊎ (status_followed answer ≡ NoMemory)
      go follow.Done is = inl (follow.Done, tt, ap status_followed is, so follow.Done is)
      go (follow.Feed at) is = inl (follow.Feed at, tt, ap status_followed is, so (follow.Feed at) is)
      go (follow.Diverged index own fed) is = inl (follow.Diverged index own fed, tt, ap status_followed is, so (follow.Diverged index own fed) is)
      go (follow.Open fault) is = let none : ◌≡◌ {A = Result Taken OpenFault} (Ok t) (Err fault) = so (follow.Open fault) is in absurd (cc)
      go follow.SourceFault is = absurd (calm_feed (counts.source_fault is))
      go follow.DiskFault is = absurd (calm_disk (counts.disk_fault is))
      go follow.NoMemory is = inr (ap status_followed is)

  pub followed : FollowsFeed source station (status_followed answer) (world od oc old) (world nd nc new)
  followed = record {
    means = means answer refl;
    moments = each_moment;
    turned_away = λ observed fault is. absurd (no_fault d fault (directory_of_bytes (source.left od)) (read observed) is);
    unopened = left_alone;
    complete = λ observed told e from t comes calm_directory. ended_so observed told e from t comes;
    silent = silent;
    directory_taken = h.taken;
    source_counts = (h.cause.later, counts.source_later);
    station_counts = (counts.say, counts.later);
  }

-- the fault of an opening that has no name of its own is one of the files
pub named_fault : (answer : FollowEnd) → IsNamedEnd answer → (fault : OpenFault) → answer ≡ follow.Open fault → IsOfFiles fault
named_fault answer named opening.DiskFault is = subst IsNamedEnd is named
named_fault answer named opening.NoMemory is = subst IsNamedEnd is named
named_fault answer named _ is = tt
