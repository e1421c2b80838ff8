-- What is left of a feed, record by record.
use Rattle.gts_standby.proofs.Cited.{◌≡◌, ℕ, zero, suc, ◌+◌, ◌-◌, ◌<◌, ◌≤◌, Bool, true, false, List, [], ◌∷◌, ◌++◌, length, take, drop, Option, Some, None, Result, Ok, Err, refl, sym, ap, subst, ◌∙◌, arith, length-append, length-drop, drop-drop, take_at, Damaged, Directory, Leads, OpenFault, Reaches, Record, State, Version, admits, after, entry_at, event_of_record, feed_at, open_gate, record_size, record_text, records_at, seal, sealed, sealed_at, seals_at, length-sealed, sealed_at-stands, at_mark, at_found, was_found, one_back, reads_one, refuses_one, reads_end_there, reads_fault, common_steps}

-- ---- the feed from a gate on

abbrev pub feed_of_record : Version → ℕ → List ℕ → List ℕ → Option Record → List ℕ
feed_of_record v n before bytes o = elim o as (λ _. List ℕ) [
  | None ↦ []
  | Some r ↦ sealed v before (record_text r) ++ feed_at v n (seal v before (record_text r)) (drop (record_size v r - 1) bytes)
]

abbrev pub feed_of_gate : Version → ℕ → List ℕ → List ℕ → Bool → List ℕ
feed_of_gate v n before bytes b = elim b as (λ _. List ℕ) [ false ↦ [] | true ↦ feed_of_record v n before bytes (sealed_at v before bytes) ]

pub feed_one : (v : Version) (n file gate : ℕ) (before bytes : List ℕ) (r : Record) → entry_at v before file gate bytes ≡ Ok (Some r)
    → feed_at v (suc n) before bytes ≡ sealed v before (record_text r) ++ feed_at v n (seal v before (record_text r)) (drop (record_size v r) bytes)
feed_one v n file gate before bytes r is =
    let found = was_found v before file gate bytes r is in
    ap (feed_at v (suc n) before) found.1
    ∙ ap (feed_of_record v n before found.0) found.2
    ∙ ap (λ (l : List ℕ). sealed v before (record_text r) ++ feed_at v n (seal v before (record_text r)) l)
    (one_back (record_size v r) open_gate found.0 (omega arith) ∙ ap (λ (l : List ℕ). drop (record_size v r) l) (sym found.1))

pub feed_none : (v : Version) (n file gate : ℕ) (before bytes : List ℕ) → entry_at v before file gate bytes ≡ Ok None → feed_at v n before bytes ≡ []
feed_none v zero file gate before bytes is = refl
feed_none v (suc n) file gate before [] is = refl
feed_none v (suc n) file gate before (mark ∷ bytes) is = grind (arith, common_steps, at_mark, at_found)

-- ---- where records come to an end

pub some_step : (v : Version) (d : Directory) (n file : ℕ) (before : List ℕ) (s : State) (gate : ℕ) (bytes : List ℕ) (x : State × ℕ × List ℕ) → records_at v d n file before s gate bytes ≡ Ok x → (m : ℕ) × (n ≡ suc m)
some_step v d zero file before s gate bytes x is = absurd (cc is)
some_step v d (suc n) file before s gate bytes x is = (n, refl)

-- what is found at a gate from which records come to an end
pub data AtEntry (v : Version) (d : Directory) (n file : ℕ) (before : List ℕ) (s : State) (gate : ℕ) (bytes : List ℕ) (x : State × ℕ × List ℕ) : Type 0 where
  IsEnd : entry_at v before file gate bytes ≡ Ok None → x ≡ (s, gate + 1, before) → AtEntry v d n file before s gate bytes x
  IsRecord : (r : Record) → entry_at v before file gate bytes ≡ Ok (Some r)
      → records_at v d n file (seal v before (record_text r)) (after d s (event_of_record r)) (gate + record_size v r) (drop (record_size v r) bytes) ≡ Ok x
      → AtEntry v d n file before s gate bytes x

pub at_entry : (v : Version) (d : Directory) (n file : ℕ) (before : List ℕ) (s : State) (gate : ℕ) (bytes : List ℕ) (x : State × ℕ × List ℕ) → records_at v d (suc n) file before s gate bytes ≡ Ok x
    → AtEntry v d n file before s gate bytes x
at_entry v d n file before s gate bytes x opens = by_entry (entry_at v before file gate bytes) refl
  where
    by_admitted : (r : Record) (b : Bool) → entry_at v before file gate bytes ≡ Ok (Some r) → admits v d s (gate + 1) r ≡ b → AtEntry v d n file before s gate bytes x
    by_admitted r true is ok = IsRecord r is (sym (reads_one v d n file before s gate bytes r is ok) ∙ opens)
    by_admitted r false is bad = absurd (let e : Err (Damaged file (gate + 1)) ≡ Ok x = sym (refuses_one v d n file before s gate bytes r is bad) ∙ opens in cc e)

    by_entry : (e : Result (Option Record) OpenFault) → entry_at v before file gate bytes ≡ e → AtEntry v d n file before s gate bytes x
    by_entry (Err fault) is = absurd (let e : Err fault ≡ Ok x = sym (reads_fault v d n file before s gate bytes fault is) ∙ opens in cc e)
    by_entry (Ok None) is = IsEnd is (let e : Ok (s, gate + 1, before) ≡ Ok x = sym (reads_end_there v d n file before s gate bytes is) ∙ opens in cc e)
    by_entry (Ok (Some r)) is = by_admitted r (admits v d s (gate + 1) r) is refl

-- the end is behind the gate
pub end_behind : (v : Version) (d : Directory) (n file : ℕ) (before : List ℕ) (s : State) (gate : ℕ) (bytes : List ℕ) (x : State × ℕ × List ℕ) → records_at v d n file before s gate bytes ≡ Ok x → gate < x.1
end_behind v d zero file before s gate bytes x opens = absurd (cc opens)
end_behind v d (suc n) file before s gate bytes x opens = elim (at_entry v d n file before s gate bytes x opens) [
  | IsEnd is same ↦ (let at : x.1 ≡ gate + 1 = ap (λ (y : State × ℕ × List ℕ). y.1) same in omega (arith, at))
  | IsRecord r is more ↦ (let far = end_behind v d n file (seal v before (record_text r)) (after d s (event_of_record r)) (gate + record_size v r) (drop (record_size v r) bytes) x more in omega (arith, far))
]

-- ---- a journal that goes on

-- behind the gate's record the records come to the same end, and of the feed its text with its seal is said
pub record GoesOn (v : Version) (d : Directory) (file : ℕ) (before : List ℕ) (gate : ℕ) (bytes : List ℕ) (end : ℕ) (left : List ℕ) (r : Record) : Type 0 where
  pub rest : List ℕ
  pub is : left ≡ sealed v before (record_text r) ++ rest
  pub reaches : Reaches v d file (seal v before (record_text r)) (gate + record_size v r) bytes end rest

pub same_record : (r q : Record) (e : Result (Option Record) OpenFault) → e ≡ Ok (Some r) → e ≡ Ok (Some q) → r ≡ q
same_record r q e one two = let first : Result (Option Record) OpenFault = Ok (Some r) in let second : Result (Option Record) OpenFault = Ok (Some q) in let both : first ≡ second = sym one ∙ two in cc both

pub no_record : (r : Record) (e : Result (Option Record) OpenFault) → e ≡ Ok None → e ≡ Ok (Some r) → ⊥
no_record r e one two = grind (arith, common_steps)

pub goes_on : (v : Version) (d : Directory) (file : ℕ) (before : List ℕ) (gate : ℕ) (bytes : List ℕ) (end : ℕ) (left : List ℕ) (r : Record) → Reaches v d file before gate bytes end left
    → entry_at v before file gate (drop gate bytes) ≡ Ok (Some r) → GoesOn v d file before gate bytes end left r
goes_on v d file before gate bytes end left r it found =
    let x : State × ℕ × List ℕ = (it.then, end + 1, it.last) in
    let some = some_step v d it.steps file before it.state gate (drop gate bytes) x it.opens in
    let n : ℕ = some.0 in
    let first = subst (λ (k : ℕ). records_at v d k file before it.state gate (drop gate bytes) ≡ Ok x) some.1 it.opens in
    let far : drop (record_size v r) (drop gate bytes) ≡ drop (gate + record_size v r) bytes = drop-drop (record_size v r) gate bytes in
    elim (at_entry v d n file before it.state gate (drop gate bytes) x first) [
      | IsEnd is same ↦ absurd (no_record r (entry_at v before file gate (drop gate bytes)) is found)
      | IsRecord q is more ↦
          let same : q ≡ r = same_record q r (entry_at v before file gate (drop gate bytes)) is found in
          let opens = subst (λ (k : Record). records_at v d n file (seal v before (record_text k)) (after d it.state (event_of_record k)) (gate + record_size v k) (drop (record_size v k) (drop gate bytes)) ≡ Ok x) same more in
          record {
            rest = feed_at v n (seal v before (record_text r)) (drop (record_size v r) (drop gate bytes));
            is = it.left_is ∙ ap (λ (k : ℕ). feed_at v k before (drop gate bytes)) some.1 ∙ feed_one v n file gate before (drop gate bytes) r found;
            reaches = record {
              steps = n;
              enough = omega (arith, it.enough, some.1);
              state = after d it.state (event_of_record r);
              then = it.then;
              last = it.last;
              opens = ap (records_at v d n file (seal v before (record_text r)) (after d it.state (event_of_record r)) (gate + record_size v r)) (sym far) ∙ opens;
              left_is = ap (feed_at v n (seal v before (record_text r))) far;
            };
          }
    ]

-- in front of the end a record stands behind the gate
pub no_end : (v : Version) (d : Directory) (file : ℕ) (before : List ℕ) (gate : ℕ) (bytes : List ℕ) (end : ℕ) (left : List ℕ) → Reaches v d file before gate bytes end left → gate < end
    → entry_at v before file gate (drop gate bytes) ≡ Ok None → ⊥
no_end v d file before gate bytes end left it low found = grind (arith, common_steps, some_step, reads_end_there)

pub no_fault : (v : Version) (d : Directory) (file : ℕ) (before : List ℕ) (gate : ℕ) (bytes : List ℕ) (end : ℕ) (left : List ℕ) (fault : OpenFault) → Reaches v d file before gate bytes end left
    → entry_at v before file gate (drop gate bytes) ≡ Err fault → ⊥
no_fault v d file before gate bytes end left fault it found =
    let x : State × ℕ × List ℕ = (it.then, end + 1, it.last) in
    let some = some_step v d it.steps file before it.state gate (drop gate bytes) x it.opens in
    let first = subst (λ (k : ℕ). records_at v d k file before it.state gate (drop gate bytes) ≡ Ok x) some.1 it.opens in
    let e : Err fault ≡ Ok x = sym (reads_fault v d some.0 file before it.state gate (drop gate bytes) fault found) ∙ first in
    absurd (cc e)

-- at the end nothing is left
pub all_said : (v : Version) (d : Directory) (file : ℕ) (before : List ℕ) (gate : ℕ) (bytes : List ℕ) (end : ℕ) (left : List ℕ) → Reaches v d file before gate bytes end left → end ≤ gate → left ≡ []
all_said v d file before gate bytes end left it high =
    let x : State × ℕ × List ℕ = (it.then, end + 1, it.last) in
    let some = some_step v d it.steps file before it.state gate (drop gate bytes) x it.opens in
    let first = subst (λ (k : ℕ). records_at v d k file before it.state gate (drop gate bytes) ≡ Ok x) some.1 it.opens in
    elim (at_entry v d some.0 file before it.state gate (drop gate bytes) x first) [
      | IsEnd is same ↦ it.left_is ∙ feed_none v it.steps file gate before (drop gate bytes) is
      | IsRecord r is more ↦
          absurd (let far = end_behind v d some.0 file (seal v before (record_text r)) (after d it.state (event_of_record r)) (gate + record_size v r) (drop (record_size v r) (drop gate bytes)) x more in omega (arith, far, high))
    ]

-- ---- the bytes of a record

-- a record that was found, with its seal, as the file has it
pub record RecordStands (v : Version) (before : List ℕ) (gate : ℕ) (bytes : List ℕ) (r : Record) : Type 0 where
  pub piece : take (record_size v r - 1) (drop (gate + 1) bytes) ≡ sealed v before (record_text r)
  pub there : gate + record_size v r ≤ length bytes

pub record_stands : (v : Version) (before : List ℕ) (file gate : ℕ) (bytes : List ℕ) (r : Record) → entry_at v before file gate (drop gate bytes) ≡ Ok (Some r) → RecordStands v before gate bytes r
record_stands v before file gate bytes r is =
    let found = was_found v before file gate (drop gate bytes) r is in
    let stands = (sealed_at-stands v before found.0 r found.2).0 in
    let behind : drop (gate + 1) bytes ≡ found.0 = sym (drop-drop 1 gate bytes) ∙ ap (λ (l : List ℕ). drop 1 l) found.1 in
    let text : List ℕ = sealed v before (record_text r) in
    let long = length-sealed v before (record_text r) in
    let size : length text ≡ record_size v r - 1 = omega (arith, long) in
    record {
      piece = ap (take (record_size v r - 1)) (behind ∙ stands.1) ∙ take_at text stands.0 (record_size v r - 1) size;
      there = (let all : length (drop gate bytes) ≡ suc (length found.0) = ap (λ (l : List ℕ). length l) found.1 in
          let more : length found.0 ≡ length text + length stands.0 = ap (λ (l : List ℕ). length l) stands.1 ∙ length-append text stands.0 in
          omega (arith, all, more, size, long, length-drop gate bytes));
    }

-- ---- the seals of a journal's records

abbrev seals_of_record : Version → ℕ → List ℕ → List ℕ → Option Record → List (List ℕ)
seals_of_record v n before bytes o = elim o as (λ _. List (List ℕ)) [
  | None ↦ []
  | Some r ↦ seal v before (record_text r) ∷ seals_at v n (seal v before (record_text r)) (drop (record_size v r - 1) bytes)
]

pub seals_one : (v : Version) (n file gate : ℕ) (before bytes : List ℕ) (r : Record) → entry_at v before file gate bytes ≡ Ok (Some r)
    → seals_at v (suc n) before bytes ≡ seal v before (record_text r) ∷ seals_at v n (seal v before (record_text r)) (drop (record_size v r) bytes)
seals_one v n file gate before bytes r is =
    let found = was_found v before file gate bytes r is in
    ap (seals_at v (suc n) before) found.1
    ∙ ap (seals_of_record v n before found.0) found.2
    ∙ ap (λ (l : List ℕ). seal v before (record_text r) ∷ seals_at v n (seal v before (record_text r)) l)
    (one_back (record_size v r) open_gate found.0 (omega arith) ∙ ap (λ (l : List ℕ). drop (record_size v r) l) (sym found.1))

pub seals_none : (v : Version) (n file gate : ℕ) (before bytes : List ℕ) → entry_at v before file gate bytes ≡ Ok None → seals_at v n before bytes ≡ []
seals_none v zero file gate before bytes is = refl
seals_none v (suc n) file gate before [] is = refl
seals_none v (suc n) file gate before (mark ∷ bytes) is = grind (arith, common_steps, at_mark, at_found)

-- behind the gate's record the seals of the others are left
pub record LeadsOn (v : Version) (d : Directory) (file : ℕ) (before : List ℕ) (gate : ℕ) (bytes : List ℕ) (end : ℕ) (left : List (List ℕ)) (r : Record) : Type 0 where
  pub rest : List (List ℕ)
  pub is : left ≡ seal v before (record_text r) ∷ rest
  pub leads : Leads v d file (seal v before (record_text r)) (gate + record_size v r) bytes end rest

pub leads_on : (v : Version) (d : Directory) (file : ℕ) (before : List ℕ) (gate : ℕ) (bytes : List ℕ) (end : ℕ) (left : List (List ℕ)) (r : Record) → Leads v d file before gate bytes end left
    → entry_at v before file gate (drop gate bytes) ≡ Ok (Some r) → LeadsOn v d file before gate bytes end left r
leads_on v d file before gate bytes end left r it found =
    let on = goes_on v d file before gate bytes end it.sent r it.reaches found in
    let stands = record_stands v before file gate bytes r found in
    let some : suc (it.n - 1) ≡ it.n = omega (arith, stands.there, it.enough) in
    let far : drop (record_size v r) (drop gate bytes) ≡ drop (gate + record_size v r) bytes = drop-drop (record_size v r) gate bytes in
    record {
      rest = seals_at v (it.n - 1) (seal v before (record_text r)) (drop (record_size v r) (drop gate bytes));
      is = it.left_is ∙ ap (λ (k : ℕ). seals_at v k before (drop gate bytes)) (sym some) ∙ seals_one v (it.n - 1) file gate before (drop gate bytes) r found;
      leads = record {
        sent = on.rest;
        reaches = on.reaches;
        n = it.n - 1;
        enough = omega (arith, it.enough, some);
        left_is = ap (seals_at v (it.n - 1) (seal v before (record_text r))) far;
      };
    }

-- at the end no seal is left
pub none_left : (v : Version) (d : Directory) (file : ℕ) (before : List ℕ) (gate : ℕ) (bytes : List ℕ) (end : ℕ) (left : List (List ℕ)) → Leads v d file before gate bytes end left → end ≤ gate → left ≡ []
none_left v d file before gate bytes end left all high =
    let it = all.reaches in
    let x : State × ℕ × List ℕ = (it.then, end + 1, it.last) in
    let some = some_step v d it.steps file before it.state gate (drop gate bytes) x it.opens in
    let first = subst (λ (k : ℕ). records_at v d k file before it.state gate (drop gate bytes) ≡ Ok x) some.1 it.opens in
    elim (at_entry v d some.0 file before it.state gate (drop gate bytes) x first) [
      | IsEnd is same ↦ all.left_is ∙ seals_none v all.n file gate before (drop gate bytes) is
      | IsRecord r is more ↦
          absurd (let far = end_behind v d some.0 file (seal v before (record_text r)) (after d it.state (event_of_record r)) (gate + record_size v r) (drop (record_size v r) (drop gate bytes)) x more in omega (arith, far, high))
    ]

-- in front of the end a seal is left
pub left_split : (v : Version) (d : Directory) (file : ℕ) (before : List ℕ) (gate : ℕ) (bytes : List ℕ) (end : ℕ) (left : List (List ℕ)) → Leads v d file before gate bytes end left → gate < end
    → (own : List ℕ) × (rest : List (List ℕ)) × (left ≡ own ∷ rest)
left_split v d file before gate bytes end left all low =
    let it = all.reaches in
    let x : State × ℕ × List ℕ = (it.then, end + 1, it.last) in
    let some = some_step v d it.steps file before it.state gate (drop gate bytes) x it.opens in
    let first = subst (λ (k : ℕ). records_at v d k file before it.state gate (drop gate bytes) ≡ Ok x) some.1 it.opens in
    elim (at_entry v d some.0 file before it.state gate (drop gate bytes) x first) [
      | IsEnd is same ↦ absurd (let far : end + 1 ≡ gate + 1 = ap (λ (y : State × ℕ × List ℕ). y.1) same in omega (arith, far, low))
      | IsRecord r is more ↦ (let on = leads_on v d file before gate bytes end left r all is in (seal v before (record_text r), on.rest, on.is))
    ]
