-- What an engine stands for whose journal was compacted, or was to be.
use Rattle.gts_engine.proofs.Cited.{◌≡◌, true, ℕ, List, [], ◌∷◌, ◌++◌, length, Option, Some, None, Ok, Err, refl, sym, ap, subst, ◌∙◌, arith, false, AllByRecursion, Core, Device, Directory, Disk, DiskFault, EachSince, Engine, Entry, Files, HasFailed, HasSaid, Holds, IsAnchor, IsCompaction, IsImage, IsLeft, IsReading, Keeps, LeavesFront, Need, Needs, NoMemory, OpensAsBefore, OpensToReading, Origin, Outside, SaidSince, SameNeed, SayMode, Shown, StationMeanings, StaysAt, begun, compacted_after, compacted_bytes, history_of, is_sound, last_or, need, said_by, shown, state_at, told, used_at, written, append-nil, take_all, drop_all, weaker, need-begun, ordered-begun, caused-compaction, common_steps}
use Rattle.gts_traits.proofs.LawLemmas.{joined}
use Rattle.gts_engine.proofs.EntryLemmas.{used_since, read_itself}
use Rattle.gts_engine.proofs.TurnLemmas.{settle_keeps}
use Rattle.gts_engine.proofs.LeavingLemmas.{at_end, whole}

last_end : (first : Option ℕ) (cs : List ℕ) (k : ℕ) → last_or first (cs ++ k ∷ []) ≡ Some k
last_end first [] k = refl
last_end first (c ∷ cs) k = last_end (Some c) cs k

-- the bytes that a compaction leaves in use
pub used_compacted : (o : Origin) (h : List Entry) → used_at (compacted_after o h) h ≡ compacted_bytes written (need o.directory (state_at o h))
used_compacted o h = grind (arith, common_steps, used_since, last_end, take_all, drop_all)

-- what doesn't depend on the compactions
anchor_on : (o : Origin) (g h : List Entry) (k : ℕ) → IsAnchor o h k → IsAnchor (compacted_after o g) h k
anchor_on o g h k anchor = record { within = anchor.within; same = anchor.same }

anchors_on : (o : Origin) (g h : List Entry) (cs : List ℕ) → AllByRecursion (IsAnchor o h) cs → AllByRecursion (IsAnchor (compacted_after o g) h) cs
anchors_on o g h [] all = tt
anchors_on o g h (c ∷ cs) all = (anchor_on o g h c all.0, anchors_on o g h cs all.1)

front_on : (mode : SayMode) (o : Origin) (g h : List Entry) (files : Files) (outside : Outside) → LeavesFront mode o h files outside → LeavesFront mode (compacted_after o g) h files outside
front_on mode o g h files outside left = grind (arith, common_steps)

all_and_one : (P : ℕ → Type 0) (cs : List ℕ) (k : ℕ) → AllByRecursion P cs → P k → AllByRecursion P (cs ++ k ∷ [])
all_and_one P [] k all one = (one, tt)
all_and_one P (c ∷ cs) k all one = (all.0, all_and_one P cs k all.1 one)

module _ (observed : Type 0) (mode : SayMode) (o : Origin) (h : List Entry) (old new : Shown) (kept : Keeps observed mode o h old) (going : old.stopped ≡ None) (directory : new.directory ≡ old.directory)
    (gathered : new.gathered ≡ false) (held : new.held ≡ []) (silent : observed → said_by new.calls ≡ said_by old.calls)
    (moments : observed → EachSince old.calls new.calls (OpensAsBefore o.directory (state_at o h))) where
  free : HasFailed None h
  free = subst (λ (x : Option Device). HasFailed x h) going kept.failed

  said_before : observed → SaidSince o.calls old.calls (told mode o h)
  said_before tell = let P : Option Device → Type 0 = λ x. HasSaid mode o h x old.calls in subst P going (kept.leaves tell).said

  own : IsReading h h
  own = read_itself h free.0

  moments_on : observed → EachSince o.calls new.calls (LeavesFront mode o h)
  moments_on tell =
      joined (LeavesFront mode o h) (OpensAsBefore o.directory (state_at o h)) o.calls old.calls new.calls (told mode o h)
      (kept.leaves tell).moments (said_before tell) (moments tell)
      (λ files later left. whole mode o h h files (told mode o h ++ later) [] own left.1
      (sym (append-nil (told mode o h)) ∙ ap (λ (l : Outside). told mode o h ++ l) (sym left.0) ∙ sym (append-nil (told mode o h ++ later))))

  now_on : observed → (files : Files) → IsImage new.calls files → OpensToReading o h files
  now_on tell files image = (h, own, (at_end (OpensAsBefore o.directory (state_at o h)) old.calls new.calls (moments tell) files image).1)

  said_on : observed → SaidSince o.calls new.calls (told mode o h)
  said_on tell = silent tell ∙ said_before tell

  -- it was compacted
  pub compacted_keeps : new.stopped ≡ None → new.core ≡ old.core → is_sound o.directory (need o.directory (state_at o h)) ≡ true
      → new.used ≡ compacted_bytes written (need o.directory (state_at o h)) → Keeps observed mode (compacted_after o h) h new
  compacted_keeps goes core sound used =
      let holds = kept.core going in
      let F : Option Device → Type 0 = λ x. HasFailed x h in
      let K : Core → Type 0 = λ k. Holds o.directory k (state_at o h) in
      let n : Need = need o.directory (state_at o h) in
      let all : List Entry → Type 0 = λ es. SameNeed o.directory (begun (need o.directory (state_at o es))) (state_at o es) in
      settle_keeps observed mode (compacted_after o h) h new (directory ∙ kept.directory)
      (λ e. subst K (sym core) holds)
      (λ e. used ∙ sym (used_compacted o h))
      gathered held
      (subst F (sym goes) free)
      kept.once
      (all_and_one (IsAnchor (compacted_after o h) h) o.compactions (length h) (anchors_on o h h o.compactions kept.anchors) (record {
        within = omega arith;
        same = subst all (sym (take_all (length h) h (omega arith))) (record { first = ordered-begun o.directory n sound; second = holds.need.second; same = need-begun o.directory n sound });
      }))
      (caused-compaction o.directory (history_of o h) o.compactions kept.caused)
      (λ tell.
      let R : Option Device → Type 0 = λ x. HasSaid mode (compacted_after o h) h x new.calls in
      record { moments = weaker (LeavesFront mode o h) (LeavesFront mode (compacted_after o h) h) o.calls new.calls (front_on mode o h h) (moments_on tell); now = now_on tell; said = subst R (sym goes) (said_on tell) })

  -- the disk failed meanwhile
  pub left_behind : new.stopped ≡ Some Disk → IsLeft observed mode o h new
  left_behind stopped = record {
    directory = directory ∙ kept.directory;
    stopped = stopped;
    gathered = gathered;
    held = held;
    failed = free;
    leaves = λ tell. record { moments = moments_on tell; now = now_on tell; said = said_on tell };
  }

-- ---- the engine

module _ {P : Type 0} (station : StationMeanings P) (old new : Engine P) (going : old.stopped ≡ None) (directory : new.directory ≡ old.directory)
    (gathered : new.gathered ≡ false) (held : new.held ≡ []) (silent : station.observed → said_by (station.calls new.station) ≡ said_by (station.calls old.station))
    (moments : station.observed → StaysAt old.directory old.core (station.calls old.station) (station.calls new.station)) where
  moments_at : (mode : SayMode) (o : Origin) (h : List Entry) → Keeps station.observed mode o h (shown station.calls old) → station.observed → EachSince (station.calls old.station) (station.calls new.station) (OpensAsBefore o.directory (state_at o h))
  moments_at mode o h kept tell =
      let M : Directory → Type 0 = λ d. Holds d old.core (state_at o h) → EachSince (station.calls old.station) (station.calls new.station) (OpensAsBefore d (state_at o h)) in
      subst M kept.directory (λ holds. moments tell (state_at o h) holds) (kept.core going)

  pub compacted_so : (n : Need) → Needs old.core n → new.stopped ≡ None → new.core ≡ old.core → is_sound old.directory n ≡ true → new.used ≡ compacted_bytes written n
      → IsCompaction station (Ok tt) old new
  compacted_so n needs goes core sound used = record {
    directory = directory;
    done = λ e mode o h kept.
        let n_is : n ≡ need o.directory (state_at o h) = needs o.directory (state_at o h) (kept.core going) in
        let S : Directory → Type 0 = λ d. is_sound d n ≡ true in
        let T : Need → Type 0 = λ m. is_sound o.directory m ≡ true in
        compacted_keeps station.observed mode o h (shown station.calls old) (shown station.calls new) kept going directory gathered held silent (moments_at mode o h kept) goes core
        (subst T n_is (subst S kept.directory sound)) (used ∙ ap (compacted_bytes written) n_is);
    failed = λ e. absurd (cc e);
  }

  pub left_so : new.stopped ≡ Some Disk → IsCompaction station (Err DiskFault) old new
  left_so stopped = record {
    directory = directory;
    done = λ e. absurd (cc e);
    failed = λ e mode o h kept. left_behind station.observed mode o h (shown station.calls old) (shown station.calls new) kept going directory gathered held silent (moments_at mode o h kept) stopped;
  }

pub memory_so : {P : Type 0} (station : StationMeanings P) (old new : Engine P) → new.directory ≡ old.directory → IsCompaction station (Err NoMemory) old new
memory_so station old new directory = record { directory = directory; done = λ e. absurd (cc e); failed = λ e. absurd (cc e) }
