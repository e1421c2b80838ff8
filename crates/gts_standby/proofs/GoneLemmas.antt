-- So many records of a feed were added to a journal, and so many gathered behind it.
use Rattle.gts_standby.proofs.Cited.{◌≡◌, inl, inr, ℕ, ◌+◌, ◌-◌, ◌≤◌, cond, List, [], ◌∷◌, ◌++◌, length, drop, Option, Some, None, Ok, refl, sym, ap, subst, ◌∙◌, arith, length-append, length-drop, append-nil, Breaks, Call, Core, Directory, DiskFault, Done, EachSince, Ends, EndsAs, Feed, Files, FollowEnd, Gathered, Gathering, GathersNone, HasAdded, HasBrought, HasGatheredOne, HasRead, HoldsAt, HoldsBehind, InFeed, InHand, IsEnd, IsFedEnd, IsFinished, IsReadyEnd, MayBring, MayHaveBrought, Need, NoMemory, OpensTo, OpensWithin, Outside, ReadsToOneOf, Record, SaidSince, SourceFault, StandsFor, State, StopsAt, Taken, Version, add_all, adding, after, after_records, chain_text, closed_gate, event_of_record, files_read, gate_behind, last_seal, may_be_cut, no_records, open_gate, read_after, read_at, read_begun, read_behind, read_with, record_behind, record_size, record_text, said_by, seal, sealed, seen, start_of, stopped, texts_of, written, started, joined, length-sealed, after_records-append}
use Rattle.std.proofs.lemmas.List.{append_assoc}
use Rattle.gts_standby.proofs.AddLemmas.{next_is, read_now, opened_now, no_begin, not_empty, some_text, one_step, no_step}
use Rattle.gts_standby.proofs.ReadLemmas.{as_before, with_front, images_read}
use Rattle.gts_standby.proofs.GatherLemmas.{gate_on, ok, seal_on, state_on, held_one, brought_holds}

-- ---- records behind records

read-append : (d : Directory) (x : State × ℕ × List ℕ) (rs qs : List Record) → read_behind d x (rs ++ qs) ≡ read_behind d (read_behind d x rs) qs
read-append d x [] qs = refl
read-append d x (r ∷ rs) qs = read-append d (after d x.0 (event_of_record r), x.1 + record_size written r, seal written x.2 (record_text r)) rs qs

-- what records read to stands behind their bytes
read-chain : (d : Directory) (t : State) (used : ℕ) (last : List ℕ) (rs : List Record)
    → read_behind d (t, used, last) rs ≡ (after_records d t rs, used + length (chain_text written last (texts_of rs)), last_seal written last (texts_of rs))
read-chain d t used last [] = ap (λ (k : ℕ). (t, k, last)) (let e : used ≡ used + 0 = omega arith in e)
read-chain d t used last (r ∷ rs) =
    let next : List ℕ = seal written last (record_text r) in
    let one : List ℕ = open_gate ∷ sealed written last (record_text r) in
    let rest : List ℕ = chain_text written next (texts_of rs) in
    read-chain d (after d t (event_of_record r)) (used + record_size written r) next rs
    ∙ ap (λ (k : ℕ). (after_records d (after d t (event_of_record r)) rs, k, last_seal written next (texts_of rs)))
    (let e : used + record_size written r + length rest ≡ used + length (one ++ rest) = omega (arith, length-append one rest, length-sealed written last (record_text r)) in e)

-- ---- so many records were added, and so many gathered

-- what a feed comes to from here on
abbrev still : Directory → State → Gathering → ℕ → ℕ → List ℕ → Taken
still d t g n at fed = add_all written d n g.batch.seal t (gate_behind g) at fed

-- The feed comes to the records that are in the journal, to those that were gathered, and to what it comes to from here on.
pub record HasGone (observed : Type 0) (d : Directory) (s : State) (used : ℕ) (last : List ℕ) (all : Taken) (old : List Call) (calls : List Call) (core : Core) (g : Gathering) (at : ℕ) (ahead : InFeed) (left : List ℕ) : Type 0 where
  pub done : List Record
  pub more : List Record
  pub settled : State
  pub settled_is : settled ≡ after_records d s done
  pub reads : (settled, g.journal.gate + 1, g.journal.seal) ≡ read_behind d (s, used, last) done
  pub fed : List ℕ
  pub n : ℕ
  pub enough : length fed ≤ n
  pub holds : HoldsBehind observed d settled more calls core g
  pub read : HasRead fed ahead left
  pub records : all.records ≡ (done ++ more) ++ (still d (after_records d settled more) g n at fed).records
  pub end_is : all.end ≡ (still d (after_records d settled more) g n at fed).end
  pub none : all.begins ≡ None
  pub silent : said_by calls ≡ said_by old
  pub moments : EachSince old calls (OpensWithin d (s, used, last) all)

pub begun_there : (observed : Type 0) → observed → (d : Directory) (s : State) (calls : List Call) (core : Core) (j : InHand) (g : Gathering) (at : ℕ) (ahead : InFeed) (left fed : List ℕ) (n : ℕ) → HoldsAt observed d s calls core j
    → g.journal ≡ j → g.batch ≡ no_records j → HoldsBehind observed d s [] calls core g → HasRead fed ahead left → length fed ≤ n
    → HasGone observed d s (j.gate + 1) j.seal (add_all written d n j.seal s j.gate at fed) calls calls core g at ahead left
begun_there observed tell d s calls core j g at ahead left fed n h journal batch holds read enough =
    let all : Taken = add_all written d n j.seal s j.gate at fed in
    let gate : gate_behind g ≡ j.gate = omega (arith, ap (λ (k : InHand). k.gate) journal, ap (λ (b : Gathered). length b.text) batch) in
    let same : all ≡ still d s g n at fed =
    ap (λ (k : ℕ). add_all written d n j.seal s k at fed) (sym gate) ∙ ap (λ (l : List ℕ). add_all written d n l s (gate_behind g) at fed) (sym (ap (λ (b : Gathered). b.seal) batch)) in
    record {
      done = [];
      more = [];
      settled = s;
      settled_is = refl;
      reads = ap (λ (k : InHand). (s, k.gate + 1, k.seal)) journal;
      fed = fed;
      n = n;
      enough = enough;
      holds = holds;
      read = read;
      records = ap (λ (t : Taken). t.records) same;
      end_is = ap (λ (t : Taken). t.end) same;
      none = no_begin d n j.seal s j.gate at fed;
      silent = refl;
      moments = started calls (OpensWithin d (read_at s j) all) (λ files image. as_before d (read_at s j) all files [] refl (images_read d s calls j (h.stands tell) files image));
    }

module _ (observed : Type 0) (tell : observed) (d : Directory) (s : State) (used : ℕ) (last : List ℕ) (all : Taken) (old mid : List Call) (core : Core) (x : Gathering) (at : ℕ) (ahead : InFeed) (left : List ℕ)
    (g : HasGone observed d s used last all old mid core x at ahead left) where
  abbrev t : State
  t = after_records d g.settled g.more

  silent_so : SaidSince old mid []
  silent_so = g.silent ∙ sym (append-nil (said_by old))

  start_is : (rs : List Record) (files : Files) → OpensTo d (after_records d s rs) files → OpensTo d (after_records d (start_of s all.begins) rs) files
  start_is rs files opens = let P : Option Need → Type 0 = λ n. OpensTo d (after_records d (start_of s n) rs) files in subst P (sym g.none) opens

  -- the state behind all of them
  both_so : t ≡ after_records d s (g.done ++ g.more)
  both_so = ap (λ (q : State). after_records d q g.more) g.settled_is ∙ sym (after_records-append d s g.done g.more)

  -- what they read to
  read_so : (v : Version) → v ≡ written → (seals : List ℕ) → (text : List ℕ) → text ≡ chain_text v x.journal.seal (texts_of g.more) ++ closed_gate ∷ [] → seals ≡ last_seal v x.journal.seal (texts_of g.more)
      → (t, x.journal.gate + (length text - 1) + 1, seals) ≡ read_behind d (s, used, last) (g.done ++ g.more)
  read_so v version seals text is last_is =
      let chained : List ℕ = chain_text written x.journal.seal (texts_of g.more) in
      let long : length text ≡ length chained + 1 =
      (let e : length (chained ++ closed_gate ∷ []) ≡ length chained + 1 = omega (arith, length-append chained (closed_gate ∷ [])) in
      ap length is ∙ ap (λ (w : Version). length (chain_text w x.journal.seal (texts_of g.more) ++ closed_gate ∷ [])) version ∙ e) in
      ap (λ (k : ℕ). (t, k, seals)) (let e : x.journal.gate + (length text - 1) + 1 ≡ x.journal.gate + 1 + length chained = omega (arith, long) in e)
      ∙ ap (λ (l : List ℕ). (t, x.journal.gate + 1 + length chained, l)) (last_is ∙ ap (λ (w : Version). last_seal w x.journal.seal (texts_of g.more)) version)
      ∙ sym (read-chain d g.settled (x.journal.gate + 1) x.journal.seal g.more)
      ∙ ap (λ (y : State × ℕ × List ℕ). read_behind d y g.more) g.reads
      ∙ sym (read-append d (s, used, last) g.done g.more)

  -- with these records the files read to what is added so far
  front_so : (rs back : List Record) (read : State × ℕ × List ℕ) (files : Files) (later : Outside) → all.records ≡ rs ++ back → later ≡ [] → read ≡ read_behind d (s, used, last) rs
      → files_read written d files ≡ Ok read → OpensWithin d (s, used, last) all files ([] ++ later)
  front_so rs back read files later parts quiet same is =
      with_front d (s, used, last) all rs back files ([] ++ later) parts quiet
      (is ∙ ap (λ (y : State × ℕ × List ℕ). Ok y) same ∙ ap (λ (o : Option Need). Ok (read_behind d (read_begun d (s, used, last) o) rs)) (sym g.none))

  -- a crash while they are brought leaves what was there, or all of them
  either_so : (files : Files) (later : Outside) → ReadsToOneOf d (read_at g.settled x.journal) (read_with t x) files later → OpensWithin d (s, used, last) all files ([] ++ later)
  either_so files later (quiet, inl is) =
      let rest : List Record = (still d t x g.n at g.fed).records in
      front_so g.done (g.more ++ rest) (read_at g.settled x.journal) files later (g.records ∙ append_assoc g.done g.more rest) quiet g.reads is
  either_so files later (quiet, inr is) =
      let next = g.holds.stands.next in
      front_so (g.done ++ g.more) (still d t x g.n at g.fed).records (read_with t x) files later g.records quiet
      (read_so x.batch.version (next.version ∙ g.holds.stands.current) x.batch.seal x.batch.text next.gathers.text next.gathers.seal) is

  pub moments_on : (new : List Call) → MayBring observed d mid x new → EachSince old new (OpensWithin d (s, used, last) all)
  moments_on new may =
      joined (OpensWithin d (s, used, last) all) (ReadsToOneOf d (read_at g.settled x.journal) (read_with t x)) old mid new [] g.moments silent_so (may g.settled g.more g.holds.stands) either_so

  -- they were brought
  pub all_brought : (new : List Call) (next : Gathering) → HasBrought observed d g.settled g.more x new next → said_by new ≡ said_by mid → MayBring observed d mid x new
      → HasGone observed d s used last all old new core next at ahead left
  all_brought new next brought quiet may =
      let same : still d t x g.n at g.fed ≡ still d t next g.n at g.fed =
      ap (λ (k : ℕ). add_all written d g.n x.batch.seal t k at g.fed) (sym brought.gate_is)
      ∙ ap (λ (l : List ℕ). add_all written d g.n l t (gate_behind next) at g.fed) (sym brought.seal_is) in
      let there = read_so x.batch.version (g.holds.stands.next.version ∙ g.holds.stands.current) x.batch.seal x.batch.text g.holds.stands.next.gathers.text g.holds.stands.next.gathers.seal in
      let empty : length next.batch.text ≡ 1 = ap length brought.stands.next.gathers.text in
      let gate : next.journal.gate + 1 ≡ gate_behind x + 1 = omega (arith, brought.gate_is, empty) in
      let seals : next.journal.seal ≡ x.batch.seal = sym brought.stands.next.gathers.seal ∙ brought.seal_is in
      record {
        done = g.done ++ g.more;
        more = [];
        settled = t;
        settled_is = both_so;
        reads = ap (λ (k : ℕ). (t, k, next.journal.seal)) gate ∙ ap (λ (l : List ℕ). (t, gate_behind x + 1, l)) seals ∙ there;
        fed = g.fed;
        n = g.n;
        enough = g.enough;
        holds = brought_holds observed d g.settled g.more new core x next g.holds.kept brought;
        read = g.read;
        records = g.records ∙ ap (λ (y : Taken). (g.done ++ g.more) ++ y.records) same ∙ ap (λ (l : List Record). l ++ (still d t next g.n at g.fed).records) (sym (append-nil (g.done ++ g.more)));
        end_is = g.end_is ∙ ap (λ (y : Taken). y.end) same;
        none = g.none;
        silent = quiet ∙ g.silent;
        moments = moments_on new may;
      }

  -- where there wasn't room
  pub room_made : (new : List Call) (next : Gathering) → MayHaveBrought observed d mid x new next → said_by new ≡ said_by mid → MayBring observed d mid x new → HasGone observed d s used last all old new core next at ahead left
  room_made new next (inl same) quiet may =
      subst (λ (y : Gathering). HasGone observed d s used last all old new core y at ahead left) (sym same.1) (subst (λ (l : List Call). HasGone observed d s used last all old l core x at ahead left) (sym same.0) g)
  room_made new next (inr brings) quiet may = all_brought new next (brings g.settled g.more g.holds.stands) quiet may

  -- the feed was read on
  pub read_further : (ahead_now : InFeed) (left_now : List ℕ) → ((rest : List ℕ) → HasRead rest ahead left → HasRead rest ahead_now left_now)
      → HasGone observed d s used last all old mid core x at ahead_now left_now
  read_further ahead_now left_now kept = record {
    done = g.done;
    more = g.more;
    settled = g.settled;
    settled_is = g.settled_is;
    reads = g.reads;
    fed = g.fed;
    n = g.n;
    enough = g.enough;
    holds = g.holds;
    read = kept g.fed g.read;
    records = g.records;
    end_is = g.end_is;
    none = g.none;
    silent = g.silent;
    moments = g.moments;
  }

  -- one more was gathered
  pub one_more : (size : ℕ) (core_now : Core) (next : Gathering) (ahead_now : InFeed) → HasGatheredOne d core x ahead size core_now next ahead_now → HasGone observed d s used last all old mid core_now next (at + size) ahead_now left
  one_more size core_now next ahead_now one =
      let r : Record = one.r in
      let found = one.read g.fed left g.read in
      let admitted = ok observed d g.settled g.more mid core x g.holds ahead size core_now next ahead_now one in
      let gate = gate_on observed d g.settled g.more mid core x g.holds ahead size core_now next ahead_now one in
      let seals = seal_on observed d g.settled g.more mid core x g.holds ahead size core_now next ahead_now one in
      let states = state_on observed d g.settled g.more mid core x g.holds ahead size core_now next ahead_now one in
      let here : record_behind written d x.batch.seal t (gate_behind x) g.fed ≡ Some r = next_is d x.batch.seal t (gate_behind x) g.fed r found.0 admitted in
      let rest : Taken = add_all written d (g.n - 1) (seal written x.batch.seal (record_text r)) (after d t (event_of_record r)) (gate_behind x + record_size written r) (at + (record_size written r - 1)) (drop (record_size written r - 1) g.fed) in
      let step : still d t x g.n at g.fed ≡ adding r rest = one_step d g.n x.batch.seal t (gate_behind x) at g.fed r g.enough here in
      let same : rest ≡ still d (after_records d g.settled (g.more ++ r ∷ [])) next (g.n - 1) (at + size) (drop size g.fed) =
      ap (λ (k : ℕ). add_all written d (g.n - 1) (seal written x.batch.seal (record_text r)) (after d t (event_of_record r)) (gate_behind x + record_size written r) (at + k) (drop k g.fed)) (sym one.size_is)
      ∙ ap (λ (k : ℕ). add_all written d (g.n - 1) (seal written x.batch.seal (record_text r)) (after d t (event_of_record r)) k (at + size) (drop size g.fed)) (sym gate)
      ∙ ap (λ (l : List ℕ). add_all written d (g.n - 1) l (after d t (event_of_record r)) (gate_behind next) (at + size) (drop size g.fed)) (sym seals)
      ∙ ap (λ (q : State). add_all written d (g.n - 1) next.batch.seal q (gate_behind next) (at + size) (drop size g.fed)) (sym states) in
      let joined_so : (g.done ++ g.more) ++ r ∷ [] ≡ g.done ++ (g.more ++ r ∷ []) = append_assoc g.done g.more (r ∷ []) in
      record {
        done = g.done;
        more = g.more ++ r ∷ [];
        settled = g.settled;
        settled_is = g.settled_is;
        reads = ap (λ (k : InHand). (g.settled, k.gate + 1, k.seal)) one.journal_is ∙ g.reads;
        fed = drop size g.fed;
        n = g.n - 1;
        enough = omega (arith, length-drop size g.fed, g.enough, one.size_is, some_text r, not_empty d x.batch.seal t (gate_behind x) g.fed r here);
        holds = held_one observed d g.settled g.more mid core x g.holds ahead size core_now next ahead_now one;
        read = found.1;
        records = g.records ∙ ap (λ (y : Taken). (g.done ++ g.more) ++ y.records) step ∙ sym (append_assoc (g.done ++ g.more) (r ∷ []) rest.records)
            ∙ ap (λ (l : List Record). l ++ rest.records) joined_so ∙ ap (λ (y : Taken). (g.done ++ (g.more ++ r ∷ [])) ++ y.records) same;
        end_is = g.end_is ∙ ap (λ (y : Taken). y.end) step ∙ ap (λ (y : Taken). y.end) same;
        none = g.none;
        silent = g.silent;
        moments = g.moments;
      }

  -- ---- at the feed's end

  broke_off : (answer : FollowEnd) (new : List Call) (left_now : List ℕ) → (IsEnd answer → ⊥) → MayBring observed d mid x new → HasAdded answer d s used last all old new left_now
  broke_off answer new left_now fault may = record { ends = λ e. absurd (fault e); opened = λ e. absurd (fault e); reads = λ e. absurd (fault e); kept = λ e. absurd (fault e); moments = moments_on new may }

  disk_failed : (answer : FollowEnd) (new : List Call) (left_now : List ℕ) → answer ≡ DiskFault → MayBring observed d mid x new → HasAdded answer d s used last all old new left_now
  disk_failed answer new left_now is may = subst (λ (e : FollowEnd). HasAdded e d s used last all old new left_now) (sym is) (broke_off DiskFault new left_now (λ e. e) may)

  -- the feed couldn't be read on, or what was gathered be brought
  pub not_ready : (answer : FollowEnd) (new : List Call) (left_now : List ℕ) → IsReadyEnd answer → MayBring observed d mid x new → HasAdded answer d s used last all old new left_now
  not_ready DiskFault new left_now kind may = broke_off DiskFault new left_now (λ e. e) may
  not_ready SourceFault new left_now kind may = broke_off SourceFault new left_now (λ e. e) may
  not_ready NoMemory new left_now kind may = broke_off NoMemory new left_now (λ e. e) may
  not_ready _ new left_now kind may = absurd kind

  ended : (answer : FollowEnd) (new : List Call) (next : Gathering) (left_now : List ℕ) → HasBrought observed d g.settled g.more x new next → MayBring observed d mid x new
      → record_behind written d x.batch.seal t (gate_behind x) g.fed ≡ None → StopsAt answer (cond (may_be_cut written g.fed) (stopped Ends) (stopped (Breaks at))) left_now
      → HasAdded answer d s used last all old new left_now
  ended answer new next left_now brought may none stops =
      let here : still d t x g.n at g.fed ≡ stopped stops.end = no_step d g.n x.batch.seal t (gate_behind x) at g.fed g.enough none ∙ stops.is in
      let end_so : all.end ≡ stops.end = g.end_is ∙ ap (λ (y : Taken). y.end) here in
      let records_all : all.records ≡ g.done ++ g.more = g.records ∙ ap (λ (y : Taken). (g.done ++ g.more) ++ y.records) here ∙ append-nil (g.done ++ g.more) in
      let f : StandsFor d t new next.journal = brought.stands.stands tell in
      let P : State → Type 0 = λ q. OpensTo d q (seen new) in
      let there = read_so x.batch.version (g.holds.stands.next.version ∙ g.holds.stands.current) x.batch.seal x.batch.text g.holds.stands.next.gathers.text g.holds.stands.next.gathers.seal in
      let empty : length next.batch.text ≡ 1 = ap length brought.stands.next.gathers.text in
      let gate : next.journal.gate + 1 ≡ gate_behind x + 1 = omega (arith, brought.gate_is, empty) in
      let seals : next.journal.seal ≡ x.batch.seal = sym brought.stands.next.gathers.seal ∙ brought.seal_is in
      let so : read_behind d (s, used, last) (g.done ++ g.more) ≡ read_after d (s, used, last) all =
      ap (read_behind d (s, used, last)) (sym records_all) ∙ ap (λ (o : Option Need). read_behind d (read_begun d (s, used, last) o) all.records) (sym g.none) in
      let same : read_at t next.journal ≡ read_after d (s, used, last) all =
      ap (λ (k : ℕ). (t, k, next.journal.seal)) gate ∙ ap (λ (l : List ℕ). (t, gate_behind x + 1, l)) seals ∙ there ∙ so in
      record {
        ends = λ _. (subst (EndsAs answer) (sym end_so) stops.ends, stops.all);
        opened = λ _. start_is all.records (seen new) (subst P (both_so ∙ ap (after_records d s) (sym records_all)) (opened_now d t new next.journal f));
        reads = λ _. read_now d t new next.journal f ∙ ap (λ (y : State × ℕ × List ℕ). Ok y) same;
        kept = λ _ files image. images_read d t new next.journal f files image ∙ ap (λ (y : State × ℕ × List ℕ). Ok y) same;
        moments = moments_on new may;
      }

  pub finished : (answer end : FollowEnd) (new : List Call) (y next : Gathering) → IsFedEnd end → y ≡ x → GathersNone end d core x at ahead
      → IsFinished answer end observed d mid y new next → MayBring observed d mid y new → HasAdded answer d s used last all old new left
  finished answer end new y next kind same stops done may =
      by_done (subst (λ (z : Gathering). IsFinished answer end observed d mid z new next) same done)
    where
      may_here : MayBring observed d mid x new
      may_here = subst (λ (z : Gathering). MayBring observed d mid z new) same may

      by_end : (e : FollowEnd) → IsFedEnd e → GathersNone e d core x at ahead → HasBrought observed d g.settled g.more x new next → HasAdded e d s used last all old new left
      by_end Done kind none brought = let here = none t g.fed left g.holds.kept g.read tt in ended Done new next left brought may_here here.0 here.1
      by_end (Feed place) kind none brought = let here = none t g.fed left g.holds.kept g.read tt in ended (Feed place) new next left brought may_here here.0 here.1
      by_end SourceFault kind none brought = broke_off SourceFault new left (λ e. e) may_here
      by_end NoMemory kind none brought = broke_off NoMemory new left (λ e. e) may_here
      by_end _ kind none brought = absurd kind

      by_done : IsFinished answer end observed d mid x new next → HasAdded answer d s used last all old new left
      by_done (inl both) =
          subst (λ (e : FollowEnd). HasAdded e d s used last all old new left) (sym both.0) (by_end end kind stops (both.1 g.settled g.more g.holds.stands))
      by_done (inr disk) = disk_failed answer new left disk may_here

-- there was no memory at the beginning
pub none_added : (observed : Type 0) → observed → (d : Directory) (s : State) (calls : List Call) (core : Core) (j : InHand) (all : Taken) (left : List ℕ) → HoldsAt observed d s calls core j → HasAdded NoMemory d s (j.gate + 1) j.seal all calls calls left
none_added observed tell d s calls core j all left h = record {
  ends = λ e. absurd e;
  opened = λ e. absurd e;
  reads = λ e. absurd e;
  kept = λ e. absurd e;
  moments = started calls (OpensWithin d (read_at s j) all) (λ files image. as_before d (read_at s j) all files [] refl (images_read d s calls j (h.stands tell) files image));
}
