-- What the files open to, before and after an append.
use Rattle.gts_journal.proofs.Cited.{◌≡◌, ◌⊎◌, inl, inr, ℕ, zero, suc, ◌+◌, ◌-◌, ◌^◌, ◌<◌, ◌≤◌, Bool, true, false, cond, List, [], ◌∷◌, ◌++◌, length, take, drop, Option, Some, None, Result, Ok, Err, refl, sym, ◌∙◌, ap, subst, arith, ◌==◌, nat_eq, nat_lt, not, AreAdmitted, AreNext, Call, Damaged, Directory, EachSince, EndsAt, Files, FitsRecord, Gathered, Gathers, HasAppended, HasAppendedBlock, HoldsState, InHand, IsBlock, IsClosed, IsImage, IsNext, IsSynced, LeavesAllOrNone, LeavesBoth, LeavesEither, MayStand, Need, NoJournal, NotThis, OldVersion, OnlySyncs, OpenFault, OpensAsBefore, OpensTo, OpensToEither, OpensToOneOf, Outside, Read, Record, Says, StandsFor, StandsOn, State, Syncs, Tries, Version, admits, after, after_records, agreeing, chain_text, checkpoint_opens, closed_gate, empty, entry_at, event_of_record, file_of, file_opens, files_read, first_seal, front_of, gate_after, header_fault, is_checkpoint, is_older, last_seal, magic, need, need_in, next_seal, no_records, open_gate, opened_of, opened_part, pointwise, record_size, record_text, records_at, restarted, said_by, seal, sealed, sealed_at, sealed_next, seen, selected, selecting, starts_with, texts_of, written, cases_eq, append-nil, take_at, weaker, started, synced, said_is, synced_image, sync_syncs, says_keeps, length-sealed, far_enough, opens_same, opens_more, selected_few, common_steps}
use Rattle.std.proofs.lemmas.List.{append_assoc, length-append}
use Rattle.gts_journal.proofs.GateLemmas.{gate_at}
pub use Rattle.gts_journal.proofs.AheadLemmas.{at_mark, at_found, few_bytes}
use Rattle.gts_journal.proofs.OpensLemmas.{at_gate, at_record, if_admitted, open_is}
pub use Rattle.gts_journal.proofs.OpeningLemmas.{agreeing-same, agreeing-other, agreeing-end}

-- ---- a batch

-- with these records in the place of its closed gate, a file opens to the state after them
pub opens_many : (v : Version) (d : Directory) (k : ℕ) (rs : List Record) (bytes : List ℕ) (s : State) (used : ℕ) (last : List ℕ) → d.limit < 256 ^ 4 → file_opens v d k bytes ≡ Ok (s, used, last)
    → length (take (used - 1) bytes) ≡ used - 1 → AreAdmitted v d s (used - 1) rs → (image end : List ℕ) → IsClosed end → image ≡ (take (used - 1) bytes ++ chain_text v last (texts_of rs)) ++ end
    → file_opens v d k image ≡ Ok (after_records d s rs, gate_after v (used - 1) rs + 1, last_seal v last (texts_of rs))
opens_many v d k [] bytes s used last limit is long admitted image end closed ends =
    let far : 41 ≤ used = far_enough v d k bytes s used last limit is in
    opens_same v d k bytes s used last limit is image end closed (ends ∙ ap (λ (l : List ℕ). l ++ end) (append-nil (take (used - 1) bytes)))
    ∙ ap (λ (n : ℕ). Ok (s, n, last)) (let e : used ≡ used - 1 + 1 = omega (arith, far) in e)
opens_many v d k (r ∷ rs) bytes s used last limit is long admitted image end closed ends =
    let far : 41 ≤ used = far_enough v d k bytes s used last limit is in
    let front : List ℕ = take (used - 1) bytes in
    let one : List ℕ = open_gate ∷ sealed v last (record_text r) in
    let next : List ℕ = seal v last (record_text r) in
    let t : State = after d s (event_of_record r) in
    let then : ℕ = used + record_size v r in
    let mid : List ℕ = front ++ one ++ closed_gate ∷ [] in
    let shut : IsClosed (closed_gate ∷ []) = (closed_gate, [], refl, refl) in
    let A : ℕ → Type 0 = λ n. admits v d s n r ≡ true in
    let opened : file_opens v d k mid ≡ Ok (t, then, next) =
    opens_more v d k bytes s used last limit is mid (closed_gate ∷ []) r shut admitted.0
    (subst A (let e : used - 1 + 1 ≡ used = omega (arith, far) in e) admitted.1) refl in
    let size : length (front ++ one) ≡ then - 1 = omega (arith, far, long, length-append front one, length-sealed v last (record_text r)) in
    let front_is : take (then - 1) mid ≡ front ++ one =
    take_at (front ++ one) (closed_gate ∷ []) (then - 1) size in
    let B : ℕ → Type 0 = λ n. AreAdmitted v d t n rs in
    let gate_is : used - 1 + record_size v r ≡ then - 1 = omega (arith, far) in
    opens_many v d k rs mid t then next limit opened (ap length front_is ∙ size) (subst B gate_is admitted.2) image end closed
    (ends ∙ ap (λ (l : List ℕ). l ++ end) (sym (append_assoc front one (chain_text v next (texts_of rs))) ∙ ap (λ (l : List ℕ). l ++ chain_text v next (texts_of rs)) (sym front_is)))
    ∙ ap (λ (n : ℕ). Ok (after_records d t rs, gate_after v n rs + 1, last_seal v next (texts_of rs))) (sym gate_is)

-- the gate behind records stands behind their bytes
pub length-chain : (v : Version) (before : List ℕ) (rs : List Record) (gate : ℕ) → gate_after v gate rs ≡ gate + length (chain_text v before (texts_of rs))
length-chain v before [] gate = omega arith
length-chain v before (r ∷ rs) gate =
    let next : List ℕ = seal v before (record_text r) in
    let one : List ℕ = open_gate ∷ sealed v before (record_text r) in
    omega (arith, length-chain v next rs (gate + record_size v r), length-append one (chain_text v next (texts_of rs)), length-sealed v before (record_text r))

-- records that were gathered, with the closed gate behind them
pub gathered_block : (before : List ℕ) (r : Record) (rs : List Record) (b : Gathered) → Gathers before (r ∷ rs) b → IsBlock b.text
gathered_block before r rs b g = (sealed b.version before (record_text r) ++ chain_text b.version (seal b.version before (record_text r)) (texts_of rs), g.text)

-- and without it
gathered_part : (before : List ℕ) (rs : List Record) (b : Gathered) → Gathers before rs b → opened_part b.text ≡ chain_text b.version before (texts_of rs)
gathered_part before rs b g = grind (arith, common_steps, take_at, length-append)

-- one record more may stand behind records
admitted_more : (v : Version) (d : Directory) (s : State) (gate : ℕ) (rs : List Record) (r : Record) → AreAdmitted v d s gate rs → FitsRecord r
    → admits v d (after_records d s rs) (gate_after v gate rs + 1) r ≡ true → AreAdmitted v d s gate (rs ++ r ∷ [])
admitted_more v d s gate [] r admitted fits ok = (fits, ok, tt)
admitted_more v d s gate (q ∷ rs) r admitted fits ok =
    (admitted.0, admitted.1, admitted_more v d (after d s (event_of_record q)) (gate + record_size v q) rs r admitted.2 fits ok)

pub records_more : (d : Directory) (s : State) (rs : List Record) (r : Record) → after_records d s (rs ++ r ∷ []) ≡ after d (after_records d s rs) (event_of_record r)
records_more d s [] r = refl
records_more d s (q ∷ rs) r = records_more d (after d s (event_of_record q)) rs r

pub next_none : (d : Directory) (s : State) (j : InHand) → AreNext d s j [] (no_records j)
next_none d s j = record { version = refl; gathers = record { text = refl; seal = refl }; admitted = tt }

pub next_more : (d : Directory) (s : State) (j : InHand) (rs : List Record) (r : Record) (b next : Gathered) → j.version ≡ written → AreNext d s j rs b → next.version ≡ b.version
    → Gathers j.seal (rs ++ r ∷ []) next → MayStand written d (after_records d s rs) (j.gate + length b.text) r → AreNext d s j (rs ++ r ∷ []) next
next_more d s j rs r b next current are version gathers may = grind (arith, common_steps, length-append, length-chain, admitted_more)

-- ---- the header

abbrev chain : Version → Directory → ℕ → List ℕ → (is_empty is_old begins is_short is_ours is_packed : Bool) → Read
chain v d file bytes is_empty is_old begins is_short is_ours is_packed = elim is_empty as (λ _. Read) [
  | true ↦ Err NoJournal
  | false ↦ elim is_old as (λ _. Read) [
    | true ↦ Err OldVersion
    | false ↦ elim begins as (λ _. Read) [
      | false ↦ Err (Damaged file (agreeing (magic v) bytes))
      | true ↦ elim is_short as (λ _. Read) [
        | true ↦ Err (Damaged file (length bytes))
        | false ↦ elim is_ours as (λ _. Read) [
          | false ↦ Err (NotThis d.mark (take 32 (drop 8 bytes)))
          | true ↦ elim is_packed as (λ _. Read) [
            | false ↦ records_at v d (length bytes) file (first_seal v d.mark) (empty d) 40 (drop 40 bytes)
            | true ↦ checkpoint_opens v d file bytes (need_in (drop 41 bytes))
          ]
        ]
      ]
    ]
  ]
]

-- the tests of a header
abbrev fault_by : Version → List ℕ → ℕ → List ℕ → (is_empty is_old begins is_short is_ours : Bool) → Option OpenFault
fault_by v mark file bytes is_empty is_old begins is_short is_ours =
    cond is_empty (Some NoJournal) (cond is_old (Some OldVersion) (cond (not begins) (Some (Damaged file (agreeing (magic v) bytes))) (cond is_short (Some (Damaged file (length bytes)))
    (cond (not is_ours) (Some (NotThis mark (take 32 (drop 8 bytes)))) None))))

fault_tests : (v : Version) (d : Directory) (file : ℕ) (bytes : List ℕ) (is_empty is_old begins is_short is_ours is_packed : Bool) (fault : OpenFault)
    → fault_by v d.mark file bytes is_empty is_old begins is_short is_ours ≡ Some fault → chain v d file bytes is_empty is_old begins is_short is_ours is_packed ≡ Err fault
fault_tests v d file bytes true is_old begins is_short is_ours is_packed fault is = let e : NoJournal ≡ fault = cc in ap Err e
fault_tests v d file bytes false true begins is_short is_ours is_packed fault is = let e : OldVersion ≡ fault = cc in ap Err e
fault_tests v d file bytes false false false is_short is_ours is_packed fault is = let e : Damaged file (agreeing (magic v) bytes) ≡ fault = cc in ap Err e
fault_tests v d file bytes false false true true is_ours is_packed fault is = let e : Damaged file (length bytes) ≡ fault = cc in ap Err e
fault_tests v d file bytes false false true false false is_packed fault is = let e : NotThis d.mark (take 32 (drop 8 bytes)) ≡ fault = cc in ap Err e
fault_tests v d file bytes false false true false true is_packed fault is = absurd (cc is)

pub faulty_header : (v : Version) (d : Directory) (file : ℕ) (bytes : List ℕ) (fault : OpenFault) → header_fault v d.mark file bytes ≡ Some fault → file_opens v d file bytes ≡ Err fault
faulty_header v d file bytes fault is =
    fault_tests v d file bytes (length bytes == 0) (is_older v bytes) (starts_with nat_eq bytes (magic v)) (nat_lt (length bytes) 40) (pointwise nat_eq (take 32 (drop 8 bytes)) d.mark)
    (is_checkpoint bytes) fault is

sound_tests : (v : Version) (d : Directory) (file : ℕ) (bytes : List ℕ) (is_empty is_old begins is_short is_ours is_packed : Bool) → fault_by v d.mark file bytes is_empty is_old begins is_short is_ours ≡ None
    → chain v d file bytes is_empty is_old begins is_short is_ours is_packed ≡ chain v d file bytes false false true false true is_packed
sound_tests v d file bytes true is_old begins is_short is_ours is_packed is = absurd (cc is)
sound_tests v d file bytes false true begins is_short is_ours is_packed is = absurd (cc is)
sound_tests v d file bytes false false false is_short is_ours is_packed is = absurd (cc is)
sound_tests v d file bytes false false true true is_ours is_packed is = absurd (cc is)
sound_tests v d file bytes false false true false false is_packed is = absurd (cc is)
sound_tests v d file bytes false false true false true is_packed is = refl

-- behind a header without fault
pub opens_behind : (v : Version) (d : Directory) (file : ℕ) (bytes : List ℕ) (b : Bool) → header_fault v d.mark file bytes ≡ None → is_checkpoint bytes ≡ b
    → file_opens v d file bytes ≡ chain v d file bytes false false true false true b
opens_behind v d file bytes b sound first = grind (arith, common_steps, sound_tests)

-- ---- the three files

pub open_selected : (v : Version) (d : Directory) (files : Files) (k : ℕ) → selected files ≡ k → files_read v d files ≡ file_opens v d k (files k)
open_selected v d files k is = ap (λ (n : ℕ). file_opens v d n (files n)) is

pub same_open : (v : Version) (d : Directory) (files others : Files) → ((k : ℕ) → files k ≡ others k) → files_read v d files ≡ files_read v d others
same_open v d files others same = grind (arith, common_steps)

abbrev opened_need : Directory → Read → Result Need OpenFault
opened_need d read = elim (opened_of read) as (λ _. Result Need OpenFault) [ Err fault ↦ Err fault | Ok x ↦ Ok (need d (restarted d x.0)) ]

-- the file that is selected is the first or the second
pub file_low : (calls : List Call) (j : InHand) → StandsOn calls j → j.file < 2
file_low calls j stands = omega (arith, sym stands.selected_is, selected_few (seen calls))

-- each of these two is as it was
pub both_left : (calls : List Call) (files : Files) {outside : Outside} → LeavesBoth calls files outside → (k : ℕ) → k < 2 → files k ≡ seen calls k
both_left calls files left zero low = left.first
both_left calls files left (suc zero) low = left.second
both_left calls files left (suc (suc k)) low = absurd (omega (arith, low))

-- an end is a gate that isn't open
closed_end : (front file : List ℕ) (ends : EndsAt front file) → IsClosed (ends.gate ∷ ends.behind)
closed_end front file ends = (ends.gate, ends.behind, ends.closed, refl)

module _ (d : Directory) (s : State) (calls : List Call) (j : InHand) (f : StandsFor d s calls j) where
  opens_file : file_opens j.version d j.file (file_of calls j) ≡ Ok (s, j.gate + 1, j.seal)
  opens_file = sym (open_selected j.version d (seen calls) j.file f.stands.selected_is) ∙ f.opens_to

  same_gate : take (j.gate + 1 - 1) (file_of calls j) ≡ front_of calls j
  same_gate = ap (λ (n : ℕ). take n (file_of calls j)) (let e : j.gate + 1 - 1 ≡ j.gate = omega arith in e)

  pub selects : (files : Files) → files 2 ≡ seen calls 2 → selected files ≡ j.file
  selects files same = ap (λ (l : List ℕ). cond (starts_with nat_eq l (1 ∷ [])) 1 0) same ∙ f.stands.selected_is

  -- what the files are read as, in the version that is written
  pub reads_as : (files : Files) (x : State × ℕ × List ℕ) → selected files ≡ j.file → file_opens j.version d j.file (files j.file) ≡ Ok x → OpensTo d x.0 files
  reads_as files x same is =
      ap (λ (v : Version). opened_need d (files_read v d files)) (sym f.current)
      ∙ ap (opened_need d) (open_selected j.version d files j.file same ∙ is)

  pub before_file : (bytes : List ℕ) → EndsAt (front_of calls j) bytes → file_opens j.version d j.file bytes ≡ Ok (s, j.gate + 1, j.seal)
  before_file bytes ends =
      opens_same j.version d j.file (file_of calls j) s (j.gate + 1) j.seal f.limit opens_file bytes (ends.gate ∷ ends.behind) (closed_end (front_of calls j) bytes ends)
      (ends.is ∙ ap (λ (l : List ℕ). l ++ ends.gate ∷ ends.behind) (sym same_gate))

  before_opens : (files : Files) → files 2 ≡ seen calls 2 → EndsAt (front_of calls j) (files j.file) → OpensTo d s files
  before_opens files same ends = reads_as files (s, j.gate + 1, j.seal) (selects files same) (before_file (files j.file) ends)

  module _ (r : Record) (next : IsNext d s j r) where
    after_file : (bytes : List ℕ) → EndsAt (front_of calls j ++ open_gate ∷ sealed_next j r) bytes
        → file_opens j.version d j.file bytes ≡ Ok (after d s (event_of_record r), j.gate + 1 + record_size j.version r, next_seal j r)
    after_file bytes ends =
        let P : Version → Type 0 = λ v. admits v d s (j.gate + 1) r ≡ true in
        opens_more j.version d j.file (file_of calls j) s (j.gate + 1) j.seal f.limit opens_file bytes (ends.gate ∷ ends.behind) r
        (closed_end (front_of calls j ++ open_gate ∷ sealed_next j r) bytes ends) next.sound.1 (subst P (sym f.current) next.admitted)
        (ends.is ∙ ap (λ (l : List ℕ). (l ++ open_gate ∷ sealed_next j r) ++ ends.gate ∷ ends.behind) (sym same_gate))

    after_opens : (files : Files) → files 2 ≡ seen calls 2 → EndsAt (front_of calls j ++ open_gate ∷ sealed_next j r) (files j.file) → OpensTo d (after d s (event_of_record r)) files
    after_opens files same ends =
        reads_as files (after d s (event_of_record r), j.gate + 1 + record_size j.version r, next_seal j r) (selects files same) (after_file (files j.file) ends)

    pub moments_open : (new : List Call) → EachSince calls new (LeavesEither calls j r) → EachSince calls new (OpensToEither d s r)
    moments_open new each = weaker _ (OpensToEither d s r) calls new (λ files outside left. (left.silent, by_end files left.selector left.journal)) each
      where
        by_end : (files : Files) → files 2 ≡ seen calls 2 → EndsAt (front_of calls j) (files j.file) ⊎ EndsAt (front_of calls j ++ open_gate ∷ sealed_next j r) (files j.file)
            → OpensTo d s files ⊎ OpensTo d (after d s (event_of_record r)) files
        by_end files same (inl ends) = inl (before_opens files same ends)
        by_end files same (inr ends) = inr (after_opens files same ends)

    pub stands_next : (new : List Call) (then : InHand) → HasAppended calls j r new then → StandsFor d (after d s (event_of_record r)) new then
    stands_next new then has =
        let ends : EndsAt (front_of calls j ++ open_gate ∷ sealed_next j r) (file_of new then) =
        record { gate = closed_gate; behind = drop (j.gate + record_size j.version r + 1) (file_of calls j); closed = refl; is = has.text } in
        let opened = after_file (file_of new then) ends in
        let t : State = after d s (event_of_record r) in
        let version : then.version ≡ j.version = ap (λ (k : InHand). k.version) has.place in
        let at : then.gate ≡ j.gate + record_size j.version r = ap (λ (k : InHand). k.gate) has.place in
        record {
          limit = f.limit;
          current = version ∙ f.current;
          stands = has.stands;
          ended = ap (λ (k : InHand). k.ended) has.place ∙ f.ended;
          opens_to = open_selected then.version d (seen new) then.file has.stands.selected_is
              ∙ ap (λ (v : Version). file_opens v d then.file (file_of new then)) version
              ∙ ap (λ (n : ℕ). file_opens j.version d n (file_of new then)) (ap (λ (k : InHand). k.file) has.place) ∙ opened
              ∙ ap (λ (n : ℕ). Ok (t, n, next_seal j r)) (let e : j.gate + 1 + record_size j.version r ≡ then.gate + 1 = omega (arith, at) in e)
              ∙ ap (λ (l : List ℕ). Ok (t, then.gate + 1, l)) (sym (ap (λ (k : InHand). k.seal) has.place));
        }

  module _ (rs : List Record) (b : Gathered) (next : AreNext d s j rs b) where
    pub all_file : (bytes : List ℕ) → EndsAt (front_of calls j ++ opened_part b.text) bytes
        → file_opens j.version d j.file bytes ≡ Ok (after_records d s rs, gate_after j.version j.gate rs + 1, last_seal j.version j.seal (texts_of rs))
    all_file bytes ends =
        let P : Version → Type 0 = λ v. AreAdmitted v d s (j.gate + 1 - 1) rs in
        let Q : ℕ → Type 0 = λ n. AreAdmitted written d s n rs in
        let gate_is : j.gate ≡ j.gate + 1 - 1 = omega arith in
        let long : length (take (j.gate + 1 - 1) (file_of calls j)) ≡ j.gate + 1 - 1 = ap length same_gate ∙ sym (gate_at j.gate (file_of calls j) (f.stands.end_is f.ended)) ∙ gate_is in
        let part : opened_part b.text ≡ chain_text j.version j.seal (texts_of rs) =
        gathered_part j.seal rs b next.gathers ∙ ap (λ (v : Version). chain_text v j.seal (texts_of rs)) next.version in
        opens_many j.version d j.file rs (file_of calls j) s (j.gate + 1) j.seal f.limit opens_file long (subst P (sym f.current) (subst Q gate_is next.admitted))
        bytes (ends.gate ∷ ends.behind) (closed_end (front_of calls j ++ opened_part b.text) bytes ends)
        (ends.is ∙ ap (λ (l : List ℕ). l ++ ends.gate ∷ ends.behind) (ap (λ (l : List ℕ). l ++ opened_part b.text) (sym same_gate) ∙ ap (λ (l : List ℕ). take (j.gate + 1 - 1) (file_of calls j) ++ l) part))
        ∙ ap (λ (n : ℕ). Ok (after_records d s rs, gate_after j.version n rs + 1, last_seal j.version j.seal (texts_of rs))) (sym gate_is)

    all_opens : (files : Files) → files 2 ≡ seen calls 2 → EndsAt (front_of calls j ++ opened_part b.text) (files j.file) → OpensTo d (after_records d s rs) files
    all_opens files same ends =
        reads_as files (after_records d s rs, gate_after j.version j.gate rs + 1, last_seal j.version j.seal (texts_of rs)) (selects files same) (all_file (files j.file) ends)

    pub batch_opens : (new : List Call) → EachSince calls new (LeavesAllOrNone calls j b.text) → EachSince calls new (OpensToOneOf d s (after_records d s rs))
    batch_opens new each = weaker _ (OpensToOneOf d s (after_records d s rs)) calls new (λ files outside left. (left.silent, by_end files left.selector left.journal)) each
      where
        by_end : (files : Files) → files 2 ≡ seen calls 2 → EndsAt (front_of calls j) (files j.file) ⊎ EndsAt (front_of calls j ++ opened_part b.text) (files j.file)
            → OpensTo d s files ⊎ OpensTo d (after_records d s rs) files
        by_end files same (inl ends) = inl (before_opens files same ends)
        by_end files same (inr ends) = inr (all_opens files same ends)

    pub batch_stands : (new : List Call) (then : InHand) → HasAppendedBlock calls j b new then → StandsFor d (after_records d s rs) new then
    batch_stands new then has =
        let part : opened_part b.text ≡ chain_text j.version j.seal (texts_of rs) =
        gathered_part j.seal rs b next.gathers ∙ ap (λ (v : Version). chain_text v j.seal (texts_of rs)) next.version in
        let chained : List ℕ = chain_text b.version j.seal (texts_of rs) in
        let back : List ℕ = has.text.0 in
        let ends : EndsAt (front_of calls j ++ opened_part b.text) (file_of new then) = record {
          gate = closed_gate;
          behind = back;
          closed = refl;
          is = has.text.1 ∙ append_assoc (front_of calls j) b.text back ∙ ap (λ (l : List ℕ). front_of calls j ++ (l ++ back)) next.gathers.text ∙ ap (λ (l : List ℕ). front_of calls j ++ l) (append_assoc chained (closed_gate ∷ []) back)
              ∙ sym (append_assoc (front_of calls j) chained (closed_gate ∷ back)) ∙ ap (λ (l : List ℕ). (front_of calls j ++ l) ++ closed_gate ∷ back) (sym (gathered_part j.seal rs b next.gathers));
        } in
        let opened = all_file (file_of new then) ends in
        let t : State = after_records d s rs in
        let version : then.version ≡ j.version = ap (λ (k : InHand). k.version) has.place in
        let at : then.gate ≡ j.gate + (length b.text - 1) = ap (λ (k : InHand). k.gate) has.place in
        let long : length b.text ≡ length (chain_text j.version j.seal (texts_of rs)) + 1 =
        ap length next.gathers.text ∙ length-append chained (closed_gate ∷ []) ∙ ap (λ (v : Version). length (chain_text v j.seal (texts_of rs)) + 1) next.version in
        let last : last_seal j.version j.seal (texts_of rs) ≡ then.seal =
        ap (λ (v : Version). last_seal v j.seal (texts_of rs)) (sym next.version) ∙ sym next.gathers.seal ∙ sym (ap (λ (k : InHand). k.seal) has.place) in
        record {
          limit = f.limit;
          current = version ∙ f.current;
          stands = has.stands;
          ended = ap (λ (k : InHand). k.ended) has.place ∙ f.ended;
          opens_to = open_selected then.version d (seen new) then.file has.stands.selected_is
              ∙ ap (λ (v : Version). file_opens v d then.file (file_of new then)) version
              ∙ ap (λ (n : ℕ). file_opens j.version d n (file_of new then)) (ap (λ (k : InHand). k.file) has.place) ∙ opened
              ∙ ap (λ (n : ℕ). Ok (t, n, last_seal j.version j.seal (texts_of rs)))
              (let e : gate_after j.version j.gate rs + 1 ≡ then.gate + 1 = omega (arith, at, long, length-chain j.version j.seal rs j.gate) in e)
              ∙ ap (λ (l : List ℕ). Ok (t, then.gate + 1, l)) last;
        }

  pub images_open : (image : Files) → IsImage calls image → OpensTo d s image
  images_open image left =
      let P : List ℕ → Type 0 = λ l. EndsAt (front_of calls j) l in
      before_opens image (synced_image calls 2 image f.stands.selector_synced left)
      (subst P (sym (synced_image calls j.file image f.stands.file_synced left)) (f.stands.end_is f.ended))

  -- ---- another file

  module _ (t : State) (o used : ℕ) (last : List ℕ) (holds : HoldsState written d t calls o used last) where
    pub select_moments : (new : List Call) → o < 2 → (o ≡ j.file → ⊥) → need d (restarted d t) ≡ need d (restarted d s) → EachSince calls new (LeavesBoth calls) → EachSince calls new (OpensAsBefore d s)
    select_moments new low other same each = weaker _ (OpensAsBefore d s) calls new (λ files outside left. (left.silent, by_file files outside left)) each
      where
        this_low : j.file < 2
        this_low = file_low calls j f.stands

        by_file : (files : Files) (outside : Outside) → LeavesBoth calls files outside → OpensTo d s files
        by_file files outside left = elim (cases_eq (selected files) o) as (λ _. OpensTo d s files) [
          | inl there ↦
              ap (opened_need d) (open_selected written d files o there ∙ ap (file_opens written d o) (both_left calls files left o low) ∙ holds)
              ∙ ap (λ (n : Need). Ok n) same
          | inr elsewhere ↦
              reads_as files (s, j.gate + 1, j.seal) (omega (arith, selected_few files, this_low, low, other, elsewhere))
              (ap (file_opens j.version d j.file) (both_left calls files left j.file this_low) ∙ opens_file)
        ]

    pub selected_stands : (new : List Call) → 0 < used → seen new o ≡ seen calls o → StandsOn new (selecting written o used last j) → StandsFor d t new (selecting written o used last j)
    selected_stands new some same stands = record {
      limit = f.limit;
      current = refl;
      stands = stands;
      ended = refl;
      opens_to = open_selected written d (seen new) o stands.selected_is ∙ ap (file_opens written d o) same ∙ holds
          ∙ ap (λ (n : ℕ). Ok (t, n, last)) (let e : used ≡ used - 1 + 1 = omega (arith, some) in e);
    }

-- ---- what is said, and what is read

-- where the selector and the journal's file are as they were, and synced, it stands where it stood
pub same_stands : (old new : List Call) (j : InHand) → (seen new 2 ≡ seen old 2) × IsSynced new 2 → (seen new j.file ≡ seen old j.file) × IsSynced new j.file → StandsOn old j → StandsOn new j
same_stands old new j selector file stands = grind (arith, common_steps)

pub same_stands_for : (d : Directory) (s : State) (old new : List Call) (j : InHand) → (seen new 2 ≡ seen old 2) × IsSynced new 2 → (seen new j.file ≡ seen old j.file) × IsSynced new j.file → StandsFor d s old j → StandsFor d s new j
same_stands_for d s old new j selector file f = grind (arith, common_steps, same_stands, open_selected)

pub say_stands : {T E : Type 0} (result : Result T E) (channel : ℕ) (bytes : List ℕ) (old new : List Call) (j : InHand) → Tries (Says channel bytes) result old new → StandsOn old j → StandsOn new j
say_stands result channel bytes old new j tries stands = grind (arith, common_steps, same_stands, says_keeps)

pub say_stands_for : {T E : Type 0} (d : Directory) (s : State) (result : Result T E) (channel : ℕ) (bytes : List ℕ) (old new : List Call) (j : InHand)
    → Tries (Says channel bytes) result old new → StandsFor d s old j → StandsFor d s new j
say_stands_for d s result channel bytes old new j tries f = grind (arith, common_steps, same_stands_for, says_keeps)

-- ---- at most a sync was tried

-- nothing is said
pub syncs_silent : (old new : List Call) → OnlySyncs old new → said_by new ≡ said_by old
syncs_silent old new (inl is) = ap said_by is
syncs_silent old new (inr (inl same)) = ap said_by same
syncs_silent old new (inr (inr broke)) = ap said_by broke.2

syncs_keep : (old new : List Call) (k : ℕ) → OnlySyncs old new → IsSynced old k → (seen new k ≡ seen old k) × IsSynced new k
syncs_keep old new k (inl is) kept = let P : List Call → Type 0 = λ l. (seen l k ≡ seen old k) × IsSynced l k in subst P (sym is) (refl, sync_syncs old k)
syncs_keep old new k (inr (inl same)) kept = let P : List Call → Type 0 = λ l. (seen l k ≡ seen old k) × IsSynced l k in subst P (sym same) (refl, kept)
syncs_keep old new k (inr (inr broke)) kept = grind (arith, common_steps)

-- and the journal stands where it stood
pub syncs_stand : (d : Directory) (s : State) (old new : List Call) (j : InHand) → OnlySyncs old new → StandsFor d s old j → StandsFor d s new j
syncs_stand d s old new j syncs f = grind (arith, common_steps, same_stands_for, syncs_keep)

-- what stands at a gate
pub was_found : (v : Version) (before : List ℕ) (file gate : ℕ) (bytes : List ℕ) (r : Record) → entry_at v before file gate bytes ≡ Ok (Some r) → (rest : List ℕ) × (bytes ≡ open_gate ∷ rest) × (sealed_at v before rest ≡ Some r)
was_found v before file gate [] r is = absurd (cc is)
was_found v before file gate (mark ∷ bytes) r is = by_mark (mark == open_gate) refl is
  where
    by_mark : (b : Bool) → b ≡ (mark == open_gate) → at_mark v before file gate bytes b ≡ Ok (Some r) → (rest : List ℕ) × (mark ∷ bytes ≡ open_gate ∷ rest) × (sealed_at v before rest ≡ Some r)
    by_mark false e is = absurd (let f : None ≡ Some r = cc is in cc f)
    by_mark true e is = (bytes, ap (λ (m : ℕ). m ∷ bytes) (open_is mark e), by_found (sealed_at v before bytes) refl is)
      where
        by_found : (o : Option Record) → o ≡ sealed_at v before bytes → at_found file gate o ≡ Ok (Some r) → sealed_at v before bytes ≡ Some r
        by_found None f is = absurd (cc is)
        by_found (Some q) f is = let same : q ≡ r = cc is in sym f ∙ ap Some same

-- a record is passed from behind its gate as from the gate
pub one_back : (k : ℕ) (mark : ℕ) (rest : List ℕ) → 1 ≤ k → drop (k - 1) rest ≡ drop k (mark ∷ rest)
one_back k mark rest some = ap (λ (m : ℕ). drop m (mark ∷ rest)) (let e : suc (k - 1) ≡ k = omega (arith, some) in e)

pub reads_one : (v : Version) (d : Directory) (n file : ℕ) (before : List ℕ) (s : State) (gate : ℕ) (bytes : List ℕ) (r : Record) → entry_at v before file gate bytes ≡ Ok (Some r)
    → admits v d s (gate + 1) r ≡ true → records_at v d (suc n) file before s gate bytes
    ≡ records_at v d n file (seal v before (record_text r)) (after d s (event_of_record r)) (gate + record_size v r) (drop (record_size v r) bytes)
reads_one v d n file before s gate bytes r is ok =
    let found = was_found v before file gate bytes r is in
    ap (records_at v d (suc n) file before s gate) found.1
    ∙ ap (at_record v d n file before s gate found.0) found.2
    ∙ ap (if_admitted v d n file before s gate found.0 r) ok
    ∙ ap (records_at v d n file (seal v before (record_text r)) (after d s (event_of_record r)) (gate + record_size v r))
    (one_back (record_size v r) open_gate found.0 (omega arith) ∙ ap (λ (l : List ℕ). drop (record_size v r) l) (sym found.1))

pub refuses_one : (v : Version) (d : Directory) (n file : ℕ) (before : List ℕ) (s : State) (gate : ℕ) (bytes : List ℕ) (r : Record) → entry_at v before file gate bytes ≡ Ok (Some r)
    → admits v d s (gate + 1) r ≡ false → records_at v d (suc n) file before s gate bytes ≡ Err (Damaged file (gate + 1))
refuses_one v d n file before s gate bytes r is bad =
    let found = was_found v before file gate bytes r is in
    ap (records_at v d (suc n) file before s gate) found.1 ∙ ap (at_record v d n file before s gate found.0) found.2 ∙ ap (if_admitted v d n file before s gate found.0 r) bad

pub reads_end_there : (v : Version) (d : Directory) (n file : ℕ) (before : List ℕ) (s : State) (gate : ℕ) (bytes : List ℕ) → entry_at v before file gate bytes ≡ Ok None
    → records_at v d (suc n) file before s gate bytes ≡ Ok (s, gate + 1, before)
reads_end_there v d n file before s gate [] is = absurd (cc is)
reads_end_there v d n file before s gate (mark ∷ bytes) is = grind (arith, common_steps, at_mark, at_gate, at_found)

pub reads_fault : (v : Version) (d : Directory) (n file : ℕ) (before : List ℕ) (s : State) (gate : ℕ) (bytes : List ℕ) (fault : OpenFault) → entry_at v before file gate bytes ≡ Err fault
    → records_at v d (suc n) file before s gate bytes ≡ Err fault
reads_fault v d n file before s gate [] fault is = let e : Damaged file gate ≡ fault = cc is in ap Err e
reads_fault v d n file before s gate (mark ∷ bytes) fault is = grind (arith, common_steps, at_mark, at_gate, at_found, at_record)

-- ---- an opening

pub opening_opens : (d : Directory) (s : State) (old new : List Call) → ((image : Files) → IsImage old image → OpensTo d s image) → OpensTo d s (seen old) → OnlySyncs old new
    → EachSince old new (OpensAsBefore d s)
opening_opens d s old new images reads syncs = by_end syncs
  where
    run : {T E : Type 0} (result : Result T E) → Tries Syncs result old new → EachSince old new (OpensAsBefore d s)
    run result tries =
        let P : Files → Outside → Type 0 = OpensAsBefore d s in
        let here = started old P (λ files image. (refl, images files image)) in
        synced P old old here result new
        (λ files same. (said_is P old old here [] (sym (append-nil (said_by old))), ap (opened_need d) (same_open written d files (seen old) same) ∙ reads)) tries

    by_end : OnlySyncs old new → EachSince old new (OpensAsBefore d s)
    by_end (inl is) = let done : Result (Unit {0}) (Unit {0}) = Ok tt in run done is
    by_end (inr broke) = let failed : Result (Unit {0}) (Unit {0}) = Err tt in run failed broke
