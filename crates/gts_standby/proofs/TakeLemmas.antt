-- A feed is taken into a journal that opens.
use Rattle.gts_standby.proofs.Cited.{◌≡◌, ◌⊎◌, inl, inr, ℕ, zero, suc, ◌+◌, ◌-◌, ◌<◌, ◌≤◌, Bool, true, false, cond, ◌&&◌, List, [], ◌∷◌, ◌++◌, length, drop, Option, Some, None, Result, Ok, Err, refl, sym, ap, subst, ◌∙◌, arith, cases_lt, append-nil, Answers, AsBefore, BeforeIt, Breaks, Call, Core, Damaged, Did, Directory, DiskFault, Diverged, Done, EachImageReads, EachOpens, EachSince, End, Ends, EndsAs, EndsBegin, Feed, Files, FollowEnd, HasAdded, HasBegun, HasRead, HasTaken, HoldsAt, InFeed, InHand, IsAddEnd, IsEnd, IsFedEnd, IsOpened, IsReadEnd, IsTakenEnd, Leads, LeavesAlone, Need, NoMemory, OnlySyncs, Open, OpenFault, OpensTo, OpensWithin, Outside, Parts, Piece, Read, ReadsAll, ReadsToOneOf, Record, SourceFault, StandsFor, State, StopsAs, StopsAt, Syncs, Taken, Version, WithFront, WithinIt, add_all, admits_checkpoint, after, after_records, begin_first, begin_with, begun, begun_taken, by_header, by_piece, checkpoint_text, comes_to, compacted_bytes, compare_first, empty, entry_at, event_of_record, feed_at, file_of, file_opens, files_read, first_seal, header_fault, is_checkpoint, is_checkpoint_fed, is_further, is_other, is_other_first, magic, may_be_cut, need, need_in, open_end, opens, or_anew, own_seals, read_after, read_anew, read_at, read_begun, read_behind, record_behind, record_size, record_text, records_at, restarted, said_by, seal, seals_at, seals_behind, seen, selected, selected_bytes, start_of, state_after, stopped, take_records, taken, unread, written, weaker, joined, syncs_silent, syncs_stand, open_selected, opens_behind, faulty_header, reads_end_there, reads_fault, common_steps}
use Rattle.gts_record.specs.declared.fault.OpenFault.TheVariants as opening
use Rattle.gts_standby.proofs.FirstLemmas.{by_admission}
use Rattle.gts_standby.proofs.FeedLemmas.{leads_on, none_left, left_split}
use Rattle.gts_standby.proofs.AddLemmas.{holds_of, opened_by, opened_now, read_now, no_begin, added_by}
use Rattle.gts_standby.proofs.ReadLemmas.{as_before, with_front, images_read, opening_reads}

-- ---- at most a sync was tried

pub opens_kept : (d : Directory) (s : State) (old new : List Call) → OnlySyncs old new → OpensTo d s (seen old) → OpensTo d s (seen new)
opens_kept d s old new (inl is) there = ap (λ (l : List Call). opens d (seen l)) is ∙ there
opens_kept d s old new (inr (inl same)) there = ap (λ (l : List Call). opens d (seen l)) same ∙ there
opens_kept d s old new (inr (inr left)) there = ap (λ (l : List Call). opens d (seen l)) left.2 ∙ there

pub reads_kept : (d : Directory) (read : Read) (old new : List Call) → OnlySyncs old new → files_read written d (seen old) ≡ read → files_read written d (seen new) ≡ read
reads_kept d read old new (inl is) there = ap (λ (l : List Call). files_read written d (seen l)) is ∙ there
reads_kept d read old new (inr (inl same)) there = ap (λ (l : List Call). files_read written d (seen l)) same ∙ there
reads_kept d read old new (inr (inr left)) there = ap (λ (l : List Call). files_read written d (seen l)) left.2 ∙ there

pub holds_kept : (observed : Type 0) (d : Directory) (s : State) (old new : List Call) (core : Core) (j : InHand) → (observed → OnlySyncs old new) → HoldsAt observed d s old core j → HoldsAt observed d s new core j
holds_kept observed d s old new core j syncs h = record { kept = h.kept; current = h.current; ended = h.ended; stands = λ tell. syncs_stand d s old new j (syncs tell) (h.stands tell) }

pub opened_kept : (observed : Type 0) (d : Directory) (old new : List Call) (core : Core) (j : InHand) → (observed → OnlySyncs old new) → IsOpened observed d old core j → IsOpened observed d new core j
opened_kept observed d old new core j syncs o = opened_by observed d o.state new core j (holds_kept observed d o.state old new core j syncs (holds_of observed d old core j o))

-- ---- the feed ends, and nothing is added

no_open : (fault : OpenFault) (end : End) → EndsAs (Open fault) end → ⊥
no_open fault _ is = is

module _ (d : Directory) (s : State) (old new : List Call) (j : InHand) (taken : Taken) (left : List ℕ) (f : StandsFor d s old j) (syncs : OnlySyncs old new) where
  quiet : (answer : FollowEnd) → IsTakenEnd answer → (IsEnd answer → ⊥) → HasTaken answer d s (j.gate + 1) j.seal taken old new left
  quiet answer kind fault = record {
    kind = kind;
    added = record { ends = λ e. absurd (fault e); opened = λ e. absurd (fault e); reads = λ e. absurd (fault e); kept = λ e. absurd (fault e); moments = opening_reads d s old j f taken new syncs };
  }

  ended : (answer : FollowEnd) → IsTakenEnd answer → StopsAt answer taken left → HasTaken answer d s (j.gate + 1) j.seal taken old new left
  ended answer kind stops = record {
    kind = kind;
    added = record {
      ends = λ _. (subst (λ (t : Taken). EndsAs answer t.end) (sym stops.is) stops.ends, stops.all);
      opened = λ _. subst (λ (t : Taken). OpensTo d (state_after d s t) (seen new)) (sym stops.is) (opens_kept d s old new syncs (opened_now d s old j f));
      reads = λ _.
          subst (λ (t : Taken). files_read written d (seen new) ≡ Ok (read_after d (s, j.gate + 1, j.seal) t)) (sym stops.is)
          (reads_kept d (Ok (s, j.gate + 1, j.seal)) old new syncs (read_now d s old j f));
      kept = λ _.
          subst (λ (t : Taken). EachImageReads d new (read_after d (s, j.gate + 1, j.seal) t)) (sym stops.is)
          (images_read d s new j (syncs_stand d s old new j syncs f));
      moments = opening_reads d s old j f taken new syncs;
    };
  }

  pub stops_taken : (answer : FollowEnd) → StopsAs answer taken left → HasTaken answer d s (j.gate + 1) j.seal taken old new left
  stops_taken Done stops = ended Done tt stops
  stops_taken (Feed at) stops = ended (Feed at) tt stops
  stops_taken (Diverged index own fed) stops = ended (Diverged index own fed) tt stops
  stops_taken (Open fault) stops = absurd (no_open fault stops.end stops.ends)
  stops_taken other stops = quiet other tt (λ e. e)

  pub unread_taken : (answer : FollowEnd) → IsReadEnd answer → HasTaken answer d s (j.gate + 1) j.seal taken old new left
  unread_taken SourceFault kind = quiet SourceFault tt (λ e. e)
  unread_taken NoMemory kind = quiet NoMemory tt (λ e. e)
  unread_taken _ kind = absurd kind

pub taken_end : (answer : FollowEnd) → IsAddEnd answer → IsTakenEnd answer
taken_end Done kind = tt
taken_end (Feed at) kind = tt
taken_end (Diverged index own fed) kind = absurd kind
taken_end (Open fault) kind = absurd kind
taken_end _ kind = tt

-- ---- a journal that begins with a checkpoint

begun_moments : (d : Directory) (from : State × ℕ × List ℕ) (old mid : List Call) (n : Need) (taken : Taken) → taken.begins ≡ Some n → EachSince old mid (ReadsToOneOf d from (read_anew d n)) → EachSince old mid (OpensWithin d from taken)
begun_moments d from old mid n taken begins each = weaker (ReadsToOneOf d from (read_anew d n)) (OpensWithin d from taken) old mid one each
  where
    one : (files : Files) (outside : Outside) → ReadsToOneOf d from (read_anew d n) files outside → OpensWithin d from taken files outside
    one files outside (quiet, inl is) = as_before d from taken files outside quiet is
    one files outside (quiet, inr is) =
        with_front d from taken [] taken.records files outside refl quiet (is ∙ ap (λ (o : Option Need). Ok (read_begun d from o)) (sym begins))

abbrev beginning : Need → Taken → Taken
beginning n more = record more { begins = Some n }

begun_added : (answer : FollowEnd) (d : Directory) (s : State) (used : ℕ) (last : List ℕ) (n : Need) (un : ℕ) (ln : List ℕ) (more : Taken) (old mid new : List Call) (left : List ℕ) → more.begins ≡ None
    → un ≡ compacted_bytes written n → ln ≡ seal written (first_seal written d.mark) (checkpoint_text n) → said_by mid ≡ said_by old
    → EachSince old mid (ReadsToOneOf d (s, used, last) (read_anew d n)) → HasAdded answer d (begun n) un ln more mid new left → HasAdded answer d s used last (beginning n more) old new left
begun_added answer d s used last n un ln more old mid new left none used_is last_is silent each added = record {
  ends = added.ends;
  opened = λ e. (let P : Option Need → Type 0 = λ o. OpensTo d (after_records d (start_of (begun n) o) more.records) (seen new) in subst P none (added.opened e));
  reads = λ e. anew_so (seen new) (added.reads e);
  kept = λ e files image. anew_so files (added.kept e files image);
  moments =
      joined (OpensWithin d (s, used, last) (beginning n more)) (OpensWithin d (begun n, un, ln) more) old mid new [] (begun_moments d (s, used, last) old mid n (beginning n more) refl each)
      (silent ∙ sym (append-nil (said_by old))) added.moments later_so;
}
  where
    -- what stands behind the checkpoint stands behind that of a journal that begins with it
    anew_so : (files : Files) → files_read written d files ≡ Ok (read_after d (begun n, un, ln) more) → files_read written d files ≡ Ok (read_after d (s, used, last) (beginning n more))
    anew_so files is =
        is ∙ ap (λ (o : Option Need). Ok (read_behind d (read_begun d (begun n, un, ln) o) more.records)) none
        ∙ ap (λ (k : ℕ). Ok (read_behind d (begun n, k, ln) more.records)) used_is
        ∙ ap (λ (l : List ℕ). Ok (read_behind d (begun n, compacted_bytes written n, l) more.records)) last_is

    -- what the journal reads to that begins anew
    same : (begun n, un, ln) ≡ read_anew d n
    same = ap (λ (k : ℕ). (begun n, k, ln)) used_is ∙ ap (λ (l : List ℕ). (begun n, compacted_bytes written n, l)) last_is

    later_so : (files : Files) (later : Outside) → OpensWithin d (begun n, un, ln) more files later → OpensWithin d (s, used, last) (beginning n more) files ([] ++ later)
    later_so files later (AsBefore quiet opens is) =
        with_front d (s, used, last) (beginning n more) [] more.records files ([] ++ later) refl quiet (is ∙ ap (λ (y : State × ℕ × List ℕ). Ok y) same)
    later_so files later (WithFront front back parts quiet opens is) =
        with_front d (s, used, last) (beginning n more) front back files ([] ++ later) parts quiet
        (is ∙ ap (λ (o : Option Need). Ok (read_behind d (read_begun d (begun n, un, ln) o) front)) none ∙ ap (λ (y : State × ℕ × List ℕ). Ok (read_behind d y front)) same)

abbrev taken_first : Directory → State → InHand → List ℕ → Bool → Taken
taken_first d s j fed b = cond b (begin_first written d j.seal fed) (add_all written d (length fed) j.seal s j.gate 40 fed)

-- no checkpoint stands at the front
pub plain_taken : (answer : FollowEnd) (d : Directory) (s : State) (j : InHand) (fed : List ℕ) (old new : List Call) (left : List ℕ) → false ≡ is_checkpoint_fed fed → IsAddEnd answer
    → HasAdded answer d s (j.gate + 1) j.seal (add_all written d (length fed) j.seal s j.gate 40 fed) old new left → HasTaken answer d s (j.gate + 1) j.seal (take_records written d s j.gate j.seal [] fed) old new left
plain_taken answer d s j fed old new left is kind added = grind (arith, common_steps, taken_end)

-- one does, and the journal has the seal of its header
pub checkpoint_taken : (answer : FollowEnd) (d : Directory) (s : State) (j : InHand) (fed : List ℕ) (old new : List Call) (left : List ℕ) → true ≡ is_checkpoint_fed fed → j.seal ≡ first_seal written d.mark
    → HasTaken answer d s (j.gate + 1) j.seal (begun_taken d fed) old new left → HasTaken answer d s (j.gate + 1) j.seal (take_records written d s j.gate j.seal [] fed) old new left
checkpoint_taken answer d s j fed old new left is first has = grind (arith, common_steps)

-- the feed ends at its checkpoint
pub ends_begun : (answer : FollowEnd) (d : Directory) (s : State) (j : InHand) (fed : List ℕ) (old new : List Call) (left : List ℕ) → StandsFor d s old j → IsAddEnd answer
    → EndsBegin answer d (read_at s j) fed old new left → HasTaken answer d s (j.gate + 1) j.seal (begun_taken d fed) old new left
ends_begun answer d s j fed old new left f kind (BeforeIt same stops) = stops_taken d s old new j (begun_taken d fed) left f (inr (inl same)) answer stops
ends_begun answer d s j fed old new left f kind (WithinIt n begins each fault) = record {
  kind = taken_end answer kind;
  added = record { ends = λ e. absurd (fault e); opened = λ e. absurd (fault e); reads = λ e. absurd (fault e); kept = λ e. absurd (fault e); moments = begun_moments d (read_at s j) old new n (begun_taken d fed) begins each };
}

abbrev by_found : Directory → List ℕ → Piece → Taken
by_found d fed piece = by_piece 40 piece (λ size other. begin_with written d (first_seal written d.mark) size fed (need_in fed))

-- the checkpoint was taken, and records are added behind it
module _ (observed : Type 0) (tell : observed) (d : Directory) (from : State × ℕ × List ℕ) (fed : List ℕ) (old mid : List Call) (at : ℕ) (core : Core) (next : InHand) (ahead : InFeed) (left : List ℕ)
    (b : HasBegun observed d from fed old at mid core next ahead left) where
  abbrev behind_it : ℕ → Taken
  behind_it place = add_all written d (length fed) next.seal (begun b.n) next.gate place (drop b.size fed)

  none_begins : (behind_it at).begins ≡ None
  none_begins = no_begin d (length fed) next.seal (begun b.n) next.gate at (drop b.size fed)

  comes_behind : begun_taken d fed ≡ beginning b.n (behind_it at)
  comes_behind =
      ap (by_found d fed) b.piece ∙ b.begins
      ∙ ap (λ (k : ℕ). beginning b.n (behind_it k)) (sym b.place)

  pub begun_on : (answer : FollowEnd) (new : List Call) (left_next : List ℕ) → IsAddEnd answer → HasAdded answer d (begun b.n) (next.gate + 1) next.seal (behind_it at) mid new left_next
      → HasTaken answer d from.0 from.1 from.2 (begun_taken d fed) old new left_next
  begun_on answer new left_next kind added =
      let has = begun_added answer d from.0 from.1 from.2 b.n (next.gate + 1) next.seal (behind_it at) old mid new left_next none_begins b.gate_is b.seal_is b.silent b.moments added in
      record { kind = taken_end answer kind; added = subst (λ (t : Taken). HasAdded answer d from.0 from.1 from.2 t old new left_next) (sym comes_behind) has }

-- ---- whether a journal has records

leads_from : (v : Version) (d : Directory) (file : ℕ) (before : List ℕ) (gate : ℕ) (bytes : List ℕ) (n : ℕ) (state then : State) (end : ℕ) (last : List ℕ) → length bytes ≤ n + gate
    → records_at v d n file before state gate (drop gate bytes) ≡ Ok (then, end + 1, last) → Leads v d file before gate bytes end (seals_at v n before (drop gate bytes))
leads_from v d file before gate bytes n state then end last enough reads = record {
  sent = feed_at v n before (drop gate bytes);
  reaches = record { steps = n; enough = enough; state = state; then = then; last = last; opens = reads; left_is = refl };
  n = n;
  enough = enough;
  left_is = refl;
}

module _ (v : Version) (d : Directory) (file : ℕ) (before : List ℕ) (gate : ℕ) (bytes : List ℕ) (n : ℕ) (state then : State) (end : ℕ) (last : List ℕ) (enough : length bytes ≤ n + gate)
    (reads : records_at v d n file before state gate (drop gate bytes) ≡ Ok (then, end + 1, last)) (low : end ≤ gate) where
  abbrev here : State × ℕ × List ℕ
  here = (then, end + 1, last)

  no_seals : seals_at v n before (drop gate bytes) ≡ []
  no_seals =
      none_left v d file before gate bytes end (seals_at v n before (drop gate bytes)) (leads_from v d file before gate bytes n state then end last enough reads) low

  no_record : (r : Record) → entry_at v before file gate (drop gate bytes) ≡ Ok (Some r) → ⊥
  no_record r is =
      let on = leads_on v d file before gate bytes end (seals_at v n before (drop gate bytes)) r (leads_from v d file before gate bytes n state then end last enough reads) is in
      let e = sym no_seals ∙ on.is in
      absurd (cc e)

  by_entry : (k : ℕ) (e : Result (Option Record) OpenFault) → entry_at v before file gate (drop gate bytes) ≡ e → records_at v d (suc k) file before state gate (drop gate bytes) ≡ Ok here
      → here ≡ (state, gate + 1, before)
  by_entry k (Err fault) is opened =
      absurd (let one : Read = Err fault in let e : one ≡ Ok here = sym (reads_fault v d k file before state gate (drop gate bytes) fault is) ∙ opened in cc e)
  by_entry k (Ok None) is opened =
      let e : Ok (state, gate + 1, before) ≡ Ok here = sym (reads_end_there v d k file before state gate (drop gate bytes) is) ∙ opened in cc e
  by_entry k (Ok (Some r)) is opened = absurd (no_record r is)

  by_steps : (k : ℕ) → records_at v d k file before state gate (drop gate bytes) ≡ Ok here → here ≡ (state, gate + 1, before)
  by_steps zero opened = absurd (cc opened)
  by_steps (suc k) opened = by_entry k (entry_at v before file gate (drop gate bytes)) refl opened

  at_its_end : here ≡ (state, gate + 1, before)
  at_its_end = by_steps n reads

pub sound_header : (v : Version) (d : Directory) (file : ℕ) (bytes : List ℕ) (x : State × ℕ × List ℕ) → file_opens v d file bytes ≡ Ok x → header_fault v d.mark file bytes ≡ None
sound_header v d file bytes x opened = grind (arith, common_steps, faulty_header)

module _ (d : Directory) (s : State) (calls : List Call) (j : InHand) (f : StandsFor d s calls j) where
  abbrev its_bytes : List ℕ
  its_bytes = file_of calls j

  abbrev first : List ℕ
  first = first_seal written d.mark

  abbrev its_need : Need
  its_need = need_in (drop 41 its_bytes)

  abbrev its_end : State × ℕ × List ℕ
  its_end = (s, j.gate + 1, j.seal)

  opens_there : file_opens written d j.file its_bytes ≡ Ok its_end
  opens_there = sym (open_selected written d (seen calls) j.file f.stands.selected_is) ∙ ap (λ (v : Version). files_read v d (seen calls)) (sym f.current) ∙ f.opens_to

  header : header_fault written d.mark j.file its_bytes ≡ None
  header = sound_header written d j.file its_bytes its_end opens_there

  plain_reads : is_checkpoint its_bytes ≡ false → records_at written d (length its_bytes) j.file first (empty d) 40 (drop 40 its_bytes) ≡ Ok its_end
  plain_reads plain = sym (opens_behind written d j.file its_bytes false header plain) ∙ opens_there

  packed_gate : is_checkpoint its_bytes ≡ true → (b : Bool) → admits_checkpoint written d (drop 41 its_bytes) its_need ≡ b → 40 < j.gate
  packed_gate packed false bad =
      absurd
      (let one : Read = Err (Damaged j.file 41) in
      let e : one ≡ Ok its_end = sym (ap (by_admission written d j.file its_bytes its_need) bad) ∙ sym (opens_behind written d j.file its_bytes true header packed) ∙ opens_there in cc e)
  packed_gate packed true ok =
      let reads : by_admission written d j.file its_bytes its_need true ≡ Ok its_end =
      sym (ap (by_admission written d j.file its_bytes its_need) ok) ∙ sym (opens_behind written d j.file its_bytes true header packed) ∙ opens_there in
      by_low (cases_lt (compacted_bytes written its_need - 1) j.gate) reads
    where
      by_low : (compacted_bytes written its_need - 1 < j.gate) ⊎ (j.gate ≤ compacted_bytes written its_need - 1) → by_admission written d j.file its_bytes its_need true ≡ Ok its_end → 40 < j.gate
      by_low (inl far) reads = omega (arith, far)
      by_low (inr low) reads =
          let e = at_its_end written d j.file (seal written first (checkpoint_text its_need)) (compacted_bytes written its_need - 1) its_bytes (length its_bytes) (begun its_need) s j.gate j.seal (omega arith) reads low in
          let at : j.gate + 1 ≡ compacted_bytes written its_need - 1 + 1 = ap (λ (x : State × ℕ × List ℕ). x.1) e in
          omega (arith, at)

  -- none where the journal ends at its first gate
  pub nothing_own : j.gate ≤ 40 → own_seals d its_bytes ≡ []
  nothing_own low = by_letter (is_checkpoint its_bytes) refl
    where
      by_letter : (b : Bool) → is_checkpoint its_bytes ≡ b → own_seals d its_bytes ≡ []
      by_letter false plain =
          ap (seals_behind written first its_bytes) plain
          ∙ no_seals written d j.file first 40 its_bytes (length its_bytes) (empty d) s j.gate j.seal (omega arith) (plain_reads plain) low
      by_letter true packed = absurd (let far = packed_gate packed (admits_checkpoint written d (drop 41 its_bytes) its_need) refl in omega (arith, far, low))

  -- and its seal is that of the header
  pub first_there : j.gate ≤ 40 → j.seal ≡ first
  first_there low = by_letter (is_checkpoint its_bytes) refl
    where
      by_letter : (b : Bool) → is_checkpoint its_bytes ≡ b → j.seal ≡ first
      by_letter false plain =
          ap (λ (x : State × ℕ × List ℕ). x.2) (at_its_end written d j.file first 40 its_bytes (length its_bytes) (empty d) s j.gate j.seal (omega arith) (plain_reads plain) low)
      by_letter true packed = absurd (let far = packed_gate packed (admits_checkpoint written d (drop 41 its_bytes) its_need) refl in omega (arith, far, low))

  -- some where it ends behind it
  pub some_own : 40 < j.gate → (own : List ℕ) × (rest : List (List ℕ)) × (own_seals d its_bytes ≡ own ∷ rest)
  some_own low = by_letter (is_checkpoint its_bytes) refl
    where
      by_letter : (b : Bool) → is_checkpoint its_bytes ≡ b → (own : List ℕ) × (rest : List (List ℕ)) × (own_seals d its_bytes ≡ own ∷ rest)
      by_letter false plain =
          let all = leads_from written d j.file first 40 its_bytes (length its_bytes) (empty d) s j.gate j.seal (omega arith) (plain_reads plain) in
          let split = left_split written d j.file first 40 its_bytes j.gate (seals_at written (length its_bytes) first (drop 40 its_bytes)) all low in
          (split.0, split.1, ap (seals_behind written first its_bytes) plain ∙ split.2)
      by_letter true packed =
          let own : List ℕ = seal written first (checkpoint_text its_need) in
          (own, seals_at written (length its_bytes) own (drop (compacted_bytes written its_need - 1) its_bytes), ap (seals_behind written first its_bytes) packed)

-- ---- a journal with records

abbrev behind_all : Directory → State → ℕ → List ℕ → ℕ → List ℕ → Taken
behind_all d s gate last at left = add_all written d (length left) last s gate at left

compared_taken : (d : Directory) (s : State) (gate : ℕ) (last fed own : List ℕ) (all rest : List (List ℕ)) → all ≡ own ∷ rest
    → take_records written d s gate last all fed ≡ or_anew d s (begun_taken d fed) (compare_first written d.limit (behind_all d s gate last) all (first_seal written d.mark) fed)
compared_taken d s gate last fed own all rest is = grind (arith, common_steps)

abbrev compared_by : Directory → List Call → InHand → List ℕ → (ℕ → List ℕ → Taken) → Taken
compared_by d calls j fed behind = compare_first written d.limit behind (own_seals d (file_of calls j)) (first_seal written d.mark) fed

-- it goes on as it was compared, where record 0 isn't another one
pub stays : (d : Directory) (s : State) (anew compared : Taken) → is_other_first compared.end ≡ false → or_anew d s anew compared ≡ compared
stays d s anew compared is = ap (λ (b : Bool). cond (b && is_further d s anew) anew compared) is

-- so it does where records are added
pub add_ends : (d : Directory) (n : ℕ) (last : List ℕ) (s : State) (gate at : ℕ) (bytes : List ℕ) → is_other_first (add_all written d n last s gate at bytes).end ≡ false
add_ends d zero last s gate at bytes = refl
add_ends d (suc n) last s gate at bytes =
    by_record (record_behind written d last s gate bytes)
    (λ r. add_ends d n (seal written last (record_text r)) (after d s (event_of_record r)) (gate + record_size written r) (at + (record_size written r - 1)) (drop (record_size written r - 1) bytes))
  where
    by_cut : (b : Bool) → is_other_first (cond b (stopped Ends) (stopped (Breaks at))).end ≡ false
    by_cut true = refl
    by_cut false = refl

    by_record : (o : Option Record)
        → ((r : Record) → is_other_first (add_all written d n (seal written last (record_text r)) (after d s (event_of_record r)) (gate + record_size written r) (at + (record_size written r - 1)) (drop (record_size written r - 1) bytes)).end ≡ false)
        → is_other_first (added_by d n last s gate at bytes o).end ≡ false
    by_record None so = by_cut (may_be_cut written bytes)
    by_record (Some r) so = so r

-- how a feed is answered that was compared
ends_so : (answer : FollowEnd) (end : End) → EndsAs answer end → is_other answer ≡ false → IsEnd answer → is_other_first end ≡ false
ends_so Done Ends is other ends = refl
ends_so Done (Breaks at) is other ends = absurd is
ends_so Done (Parts index own fed) is other ends = absurd is
ends_so (Feed at) Ends is other ends = absurd is
ends_so (Feed at) (Breaks place) is other ends = refl
ends_so (Feed at) (Parts index own fed) is other ends = absurd is
ends_so (Diverged index own fed) Ends is other ends = absurd is
ends_so (Diverged index own fed) (Breaks at) is other ends = absurd is
ends_so (Diverged zero own fed) (Parts number its other_fed) is other ends = absurd (let e : true ≡ false = other in cc e)
ends_so (Diverged (suc index) own fed) (Parts zero its other_fed) is other ends = absurd (let e : suc index ≡ 0 = is.0 in cc e)
ends_so (Diverged (suc index) own fed) (Parts (suc number) its other_fed) is other ends = refl
ends_so _ end is other ends = absurd ends

stops_anew : (answer : FollowEnd) (d : Directory) (s : State) (anew compared : Taken) (left : List ℕ) → is_other answer ≡ false → StopsAs answer compared left → StopsAs answer (or_anew d s anew compared) left
stops_anew answer d s anew compared left other stops = grind (arith, common_steps, stays, ends_so, no_open)

module _ (d : Directory) (s : State) (old mid : List Call) (j : InHand) (fed : List ℕ) (f : StandsFor d s old j) (syncs : OnlySyncs old mid) (low : 40 < j.gate) where
  abbrev comes : Taken
  comes = take_records written d s j.gate j.seal (own_seals d (file_of old j)) fed

  abbrev compared_here : Taken
  compared_here = compared_by d old j fed (behind_all d s j.gate j.seal)

  comes_so : comes ≡ or_anew d s (begun_taken d fed) compared_here
  comes_so = let split = some_own d s old j f low in compared_taken d s j.gate j.seal fed split.0 (own_seals d (file_of old j)) split.1 split.2

  pub ends_compared : (answer : FollowEnd) (left : List ℕ) → is_other answer ≡ false → ((behind : ℕ → List ℕ → Taken) → StopsAs answer (compared_by d old j fed behind) left) → HasTaken answer d s (j.gate + 1) j.seal comes old mid left
  ends_compared answer left other stops =
      stops_taken d s old mid j comes left f syncs answer
      (subst (λ (t : Taken). StopsAs answer t left) (sym comes_so) (stops_anew answer d s (begun_taken d fed) compared_here left other (stops (behind_all d s j.gate j.seal))))

  -- since the opening
  from_opening : (answer : FollowEnd) (taken : Taken) (new : List Call) (left : List ℕ) → IsTakenEnd answer → HasAdded answer d s (j.gate + 1) j.seal taken mid new left → HasTaken answer d s (j.gate + 1) j.seal taken old new left
  from_opening answer taken new left kind added = record {
    kind = kind;
    added = record {
      ends = added.ends;
      opened = added.opened;
      reads = added.reads;
      kept = added.kept;
      moments =
          joined (OpensWithin d (read_at s j) taken) (OpensWithin d (read_at s j) taken) old mid new [] (opening_reads d s old j f taken mid syncs)
          (syncs_silent old mid syncs ∙ sym (append-nil (said_by old))) added.moments (λ files later is. is);
    };
  }

  pub goes_compared : (answer : FollowEnd) (new : List Call) (at : ℕ) (on left : List ℕ) → ((behind : ℕ → List ℕ → Taken) → compared_by d old j fed behind ≡ behind at on) → IsAddEnd answer
      → HasAdded answer d s (j.gate + 1) j.seal (behind_all d s j.gate j.seal at on) mid new left → HasTaken answer d s (j.gate + 1) j.seal comes old new left
  goes_compared answer new at on left same kind added =
      let on_is = same (behind_all d s j.gate j.seal) in
      let goes : or_anew d s (begun_taken d fed) compared_here ≡ behind_all d s j.gate j.seal at on =
      ap (or_anew d s (begun_taken d fed)) on_is ∙ stays d s (begun_taken d fed) (behind_all d s j.gate j.seal at on) (add_ends d (length on) j.seal s j.gate at on) in
      subst (λ (t : Taken). HasTaken answer d s (j.gate + 1) j.seal t old new left) (sym (comes_so ∙ goes))
      (from_opening answer (behind_all d s j.gate j.seal at on) new left (taken_end answer kind) added)

  -- record 0 is another one
  pub other_compared : (compared answer : FollowEnd) (new : List Call) (left left_now : List ℕ) → is_other compared ≡ true → ((behind : ℕ → List ℕ → Taken) → StopsAs compared (compared_by d old j fed behind) left)
      → ((end : End) → EndsAs compared end → HasTaken answer d s (j.gate + 1) j.seal (or_anew d s (begun_taken d fed) (stopped end)) mid new left_now) → HasTaken answer d s (j.gate + 1) j.seal comes old new left_now
  other_compared compared answer new left left_now other stops has = by_end compared other (stops (behind_all d s j.gate j.seal)) has
    where
      by_end : (a : FollowEnd) → is_other a ≡ true → StopsAs a compared_here left
          → ((end : End) → EndsAs a end → HasTaken answer d s (j.gate + 1) j.seal (or_anew d s (begun_taken d fed) (stopped end)) mid new left_now) → HasTaken answer d s (j.gate + 1) j.seal comes old new left_now
      by_end Done other stops has = absurd (cc other)
      by_end (Open fault) other stops has = absurd (cc other)
      by_end (Feed at) other stops has = absurd (cc other)
      by_end SourceFault other stops has = absurd (cc other)
      by_end DiskFault other stops has = absurd (cc other)
      by_end NoMemory other stops has = absurd (cc other)
      by_end (Diverged index own fed_seal) other stops has =
          let h = has stops.end stops.ends in
          let is : comes ≡ or_anew d s (begun_taken d fed) (stopped stops.end) = comes_so ∙ ap (or_anew d s (begun_taken d fed)) stops.is in
          subst (λ (t : Taken). HasTaken answer d s (j.gate + 1) j.seal t old new left_now) (sym is) (from_opening answer (or_anew d s (begun_taken d fed) (stopped stops.end)) new left_now h.kind h.added)

-- ---- a journal that may begin anew

anew_by : (d : Directory) (s : State) (anew : Taken) (end : End) (first further : Bool) → is_other_first end ≡ first → is_further d s anew ≡ further → or_anew d s anew (stopped end) ≡ cond (first && further) anew (stopped end)
anew_by d s anew end first further one two = ap (λ (b : Bool). cond (b && is_further d s anew) anew (stopped end)) one ∙ ap (λ (b : Bool). cond (first && b) anew (stopped end)) two

other_there : (compared : FollowEnd) (end : End) → is_other compared ≡ true → EndsAs compared end → is_other_first end ≡ true
other_there Done end other is = absurd (cc other)
other_there (Open fault) end other is = absurd (cc other)
other_there (Feed at) end other is = absurd (cc other)
other_there SourceFault end other is = absurd (cc other)
other_there DiskFault end other is = absurd (cc other)
other_there NoMemory end other is = absurd (cc other)
other_there (Diverged (suc index) own fed) end other is = absurd (cc other)
other_there (Diverged zero own fed) Ends other is = absurd is
other_there (Diverged zero own fed) (Breaks at) other is = absurd is
other_there (Diverged zero own fed) (Parts zero its other_fed) other is = refl
other_there (Diverged zero own fed) (Parts (suc number) its other_fed) other is = absurd (let e : 0 ≡ suc number = is.0 in cc e)

-- it begins anew
pub anew_taken : (answer compared : FollowEnd) (d : Directory) (s : State) (j : InHand) (fed : List ℕ) (end : End) (old new : List Call) (left : List ℕ) → is_other compared ≡ true → EndsAs compared end
    → true ≡ is_further d s (begun_taken d fed) → HasTaken answer d s (j.gate + 1) j.seal (begun_taken d fed) old new left → HasTaken answer d s (j.gate + 1) j.seal (or_anew d s (begun_taken d fed) (stopped end)) old new left
anew_taken answer compared d s j fed end old new left other is further has = grind (arith, common_steps, anew_by, other_there)

-- its checkpoint is behind, or none
pub behind_taken_over : (compared : FollowEnd) (d : Directory) (s : State) (fed : List ℕ) (end : End) (calls : List Call) (j : InHand) (left : List ℕ) → StandsFor d s calls j → is_other compared ≡ true → EndsAs compared end
    → false ≡ is_further d s (begun_taken d fed) → HasTaken compared d s (j.gate + 1) j.seal (or_anew d s (begun_taken d fed) (stopped end)) calls calls left
behind_taken_over compared d s fed end calls j left f other is further =
    subst (λ (t : Taken). HasTaken compared d s (j.gate + 1) j.seal t calls calls left)
    (sym (anew_by d s (begun_taken d fed) end true false (other_there compared end other is) (sym further)))
    (stops_taken d s calls calls j (stopped end) left f (inr (inl refl)) compared (by_end compared other is))
  where
    by_end : (a : FollowEnd) → is_other a ≡ true → EndsAs a end → StopsAs a (stopped end) left
    by_end Done other is = absurd (cc other)
    by_end (Open fault) other is = absurd (cc other)
    by_end (Feed at) other is = absurd (cc other)
    by_end SourceFault other is = absurd (cc other)
    by_end DiskFault other is = absurd (cc other)
    by_end NoMemory other is = absurd (cc other)
    by_end (Diverged index own fed_seal) other is = record { end = end; is = refl; ends = is; all = tt }

-- without records
pub first_taken : (answer : FollowEnd) (d : Directory) (s : State) (old new : List Call) (j : InHand) (fed left : List ℕ) → StandsFor d s old j → j.gate ≤ 40
    → HasTaken answer d s (j.gate + 1) j.seal (take_records written d s j.gate j.seal [] fed) old new left → HasTaken answer d s (j.gate + 1) j.seal (take_records written d s j.gate j.seal (own_seals d (file_of old j)) fed) old new left
first_taken answer d s old new j fed left f low has =
    subst (λ (l : List (List ℕ)). HasTaken answer d s (j.gate + 1) j.seal (take_records written d s j.gate j.seal l fed) old new left) (sym (nothing_own d s old j f low)) has

-- ---- all of it

-- nothing of a feed was read yet
pub all_unread : (left : List ℕ) → HasRead left unread left
all_unread left = record { is = refl; all = λ is. absurd (cc is) }

abbrev pub come_by : Directory → Files → List ℕ → Read → Result Taken OpenFault
come_by d files fed r = elim r as (λ _. Result Taken OpenFault) [
  | Err fault ↦ Err fault
  | Ok read ↦ Ok (taken written d read.0 (read.1 - 1) read.2 (own_seals d (selected_bytes files)) fed)
]

pub open_no_end : (e : OpenFault) → IsEnd (open_end e) → ⊥
open_no_end opening.DiskFault is = is
open_no_end opening.NoMemory is = is
open_no_end opening.NoJournal is = is
open_no_end opening.OldVersion is = is
open_no_end (opening.NotThis want found) is = is
open_no_end (opening.Damaged file at) is = is

-- a journal that is refused is left alone
pub open_alone : (e : OpenFault) (old new : List Call) (Unread : Type 0) → OnlySyncs old new → Unread → LeavesAlone (open_end e) old new Unread
open_alone opening.DiskFault old new Unread told same = tt
open_alone opening.NoMemory old new Unread told same = tt
open_alone _ old new Unread told same = (told, same)

-- and where it opens, it isn't refused
pub taken_alone : (answer : FollowEnd) (old new : List Call) (Unread : Type 0) → IsTakenEnd answer → LeavesAlone answer old new Unread
taken_alone Done old new Unread kind = tt
taken_alone (Open fault) old new Unread kind = absurd kind
taken_alone _ old new Unread kind = tt

pub fed_alone : (answer : FollowEnd) (old new : List Call) (Unread : Type 0) → IsFedEnd answer → LeavesAlone answer old new Unread
fed_alone Done old new Unread kind = tt
fed_alone (Open fault) old new Unread kind = absurd kind
fed_alone _ old new Unread kind = tt

-- where it opens
module _ (d : Directory) (old mid : List Call) (j : InHand) (s : State) (fed : List ℕ) (synced : mid ≡ Did Syncs ∷ old) (f : StandsFor d s mid j) where
  abbrev behind_header : Taken
  behind_header = take_records written d s j.gate j.seal (own_seals d (file_of mid j)) (drop 40 fed)

  abbrev all_taken : Taken
  all_taken = taken written d s j.gate j.seal (own_seals d (file_of mid j)) fed

  reads_there : files_read written d (seen old) ≡ Ok (s, j.gate + 1, j.seal)
  reads_there = sym (ap (λ (l : List Call). files_read written d (seen l)) synced) ∙ ap (λ (v : Version). files_read v d (seen mid)) (sym f.current) ∙ f.opens_to

  selected_there : selected_bytes (seen old) ≡ file_of mid j
  selected_there =
      let place : selected (seen old) ≡ j.file = sym (ap (λ (l : List Call). selected (seen l)) synced) ∙ f.stands.selected_is in
      ap (seen old) place ∙ sym (ap (λ (l : List Call). seen l j.file) synced)

  comes_there : comes_to d (seen old) fed ≡ Ok all_taken
  comes_there =
      ap (come_by d (seen old) fed) reads_there
      ∙ ap (λ (k : ℕ). Ok (taken written d s k j.seal (own_seals d (selected_bytes (seen old))) fed)) (let e : j.gate + 1 - 1 ≡ j.gate = omega arith in e)
      ∙ ap (λ (l : List ℕ). Ok (taken written d s j.gate j.seal (own_seals d l) fed)) selected_there

  -- the header was taken
  pub behind_taken : (answer : FollowEnd) (mark : List ℕ) (new : List Call) (left : List ℕ) → mark ≡ d.mark → ((next : Taken) → by_header (magic written ++ mark) fed next ≡ next)
      → HasTaken answer d s (j.gate + 1) j.seal behind_header mid new left → HasTaken answer d s (j.gate + 1) j.seal all_taken mid new left
  behind_taken answer mark new left ours same has =
      subst (λ (t : Taken). HasTaken answer d s (j.gate + 1) j.seal t mid new left)
      (sym (ap (λ (l : List ℕ). by_header (magic written ++ l) fed behind_header) (sym ours) ∙ same behind_header)) has

  -- the feed ends there
  pub header_taken : (answer : FollowEnd) (mark left : List ℕ) → mark ≡ d.mark → ((next : Taken) → StopsAs answer (by_header (magic written ++ mark) fed next) left)
      → HasTaken answer d s (j.gate + 1) j.seal all_taken mid mid left
  header_taken answer mark left ours stops =
      stops_taken d s mid mid j all_taken left f (inr (inl refl)) answer
      (subst (λ (l : List ℕ). StopsAs answer (by_header (magic written ++ l) fed behind_header) left) ours (stops behind_header))

  module _ (answer : FollowEnd) (new : List Call) (left : List ℕ) (has : HasTaken answer d s (j.gate + 1) j.seal all_taken mid new left) where
    by_answer : (a : FollowEnd) → IsTakenEnd a → (IsEnd a → EndsAs a all_taken.end × ReadsAll a left) → Answers a (Ok all_taken)
    by_answer Done kind ends = (ends tt).0
    by_answer (Feed at) kind ends = (ends tt).0
    by_answer (Diverged index own other) kind ends = (ends tt).0
    by_answer (Open fault) kind ends = absurd kind
    by_answer _ kind ends = tt

    pub answers_there : Answers answer (comes_to d (seen old) fed)
    answers_there = subst (Answers answer) (sym comes_there) (by_answer answer has.kind has.added.ends)

    same_state : (t : State) (used : ℕ) (last : List ℕ) → files_read written d (seen old) ≡ Ok (t, used, last) → s ≡ t
    same_state t used last reads =
        let e : Ok (s, j.gate + 1, j.seal) ≡ Ok (t, used, last) = sym reads_there ∙ reads in
        let x : (s, j.gate + 1, j.seal) ≡ (t, used, last) = cc e in ap (λ (y : State × ℕ × List ℕ). y.0) x

    same_taken : (other : Taken) → comes_to d (seen old) fed ≡ Ok other → all_taken ≡ other
    same_taken other comes = let e : Ok all_taken ≡ Ok other = sym comes_there ∙ comes in cc e

    pub added_there : (t : State) (used : ℕ) (last : List ℕ) (other : Taken) → files_read written d (seen old) ≡ Ok (t, used, last) → comes_to d (seen old) fed ≡ Ok other → IsEnd answer
        → opens d (seen new) ≡ Ok (need d (restarted d (state_after d t other)))
    added_there t used last other reads comes ends =
        let by_state : OpensTo d (state_after d t all_taken) (seen new) = subst (λ (q : State). OpensTo d (state_after d q all_taken) (seen new)) (same_state t used last reads) (has.added.opened ends) in
        subst (λ (x : Taken). OpensTo d (state_after d t x) (seen new)) (same_taken other comes) by_state

    same_after : (read : State × ℕ × List ℕ) (other : Taken) → files_read written d (seen old) ≡ Ok read → comes_to d (seen old) fed ≡ Ok other
        → read_after d (s, j.gate + 1, j.seal) all_taken ≡ read_after d read other
    same_after read other reads comes =
        let e : Ok (s, j.gate + 1, j.seal) ≡ Ok read = sym reads_there ∙ reads in
        let same : (s, j.gate + 1, j.seal) ≡ read = cc e in
        ap (λ (x : State × ℕ × List ℕ). read_after d x all_taken) same ∙ ap (λ (t : Taken). read_after d read t) (same_taken other comes)

    pub reads_after_there : (read : State × ℕ × List ℕ) (other : Taken) → files_read written d (seen old) ≡ Ok read → comes_to d (seen old) fed ≡ Ok other → IsEnd answer
        → files_read written d (seen new) ≡ Ok (read_after d read other)
    reads_after_there read other reads comes ends = has.added.reads ends ∙ ap (λ (x : State × ℕ × List ℕ). Ok x) (same_after read other reads comes)

    pub kept_there : (read : State × ℕ × List ℕ) (other : Taken) → files_read written d (seen old) ≡ Ok read → comes_to d (seen old) fed ≡ Ok other → IsEnd answer
        → EachImageReads d new (read_after d read other)
    kept_there read other reads comes ends files image = has.added.kept ends files image ∙ ap (λ (x : State × ℕ × List ℕ). Ok x) (same_after read other reads comes)

    pub moments_there : (read : State × ℕ × List ℕ) (other : Taken) → files_read written d (seen old) ≡ Ok read → comes_to d (seen old) fed ≡ Ok other → EachOpens d read other old new
    moments_there read other reads comes =
        let e : Ok (s, j.gate + 1, j.seal) ≡ Ok read = sym reads_there ∙ reads in
        let same : (s, j.gate + 1, j.seal) ≡ read = cc e in
        let by_read : EachSince mid new (OpensWithin d read all_taken) = subst (λ (x : State × ℕ × List ℕ). EachSince mid new (OpensWithin d x all_taken)) same has.added.moments in
        let by_taken : EachSince mid new (OpensWithin d read other) = subst (λ (x : Taken). EachSince mid new (OpensWithin d read x)) (same_taken other comes) by_read in
        inr (subst (λ (l : List Call). EachSince l new (OpensWithin d read other)) synced by_taken)

-- so the files don't open to a fault
pub opened_there : (d : Directory) (old mid : List Call) (j : InHand) (s : State) (fault : OpenFault) (X : Type 0) → mid ≡ Did Syncs ∷ old → StandsFor d s mid j → files_read written d (seen old) ≡ Err fault → X
opened_there d old mid j s fault X synced f is = grind (arith, common_steps)

-- a feed that was taken to its end leaves nothing
pub done_stops : (answer : FollowEnd) (t : Taken) (left : List ℕ) → StopsAs answer t left → answer ≡ Done → left ≡ []
done_stops answer t left stops is = (subst (λ (a : FollowEnd). StopsAs a t left) is stops).all
