-- What the feed of a journal comes to beside one that has no records.
use Rattle.gts_standby.proofs.Cited.{◌≡◌, ℕ, zero, suc, ◌+◌, ◌-◌, ◌^◌, ◌<◌, ◌≤◌, Bool, true, false, cond, List, [], ◌∷◌, ◌++◌, length, take, drop, Some, None, Ok, Err, nat_eq, nat_lt, refl, sym, ap, subst, ◌∙◌, arith, length-append, ◌==◌, Accept, AddsFront, AddsNothing, AddsPart, Damaged, Directory, Drew, Ends, Files, LeadsTo, Read, Record, State, Taken, add_all, adding, admits, after, after_records, agreeing, comes_to, empty, entry_at, event_of_record, feed, feed_at, feed_behind, file_opens, files_read, first_seal, header_fault, is_checkpoint, is_checkpoint_fed, is_older, magic, own_seals, pointwise, read_behind, record_behind, record_size, record_text, records_at, same_text, seal, sealed, sealed_at, selected, selected_bytes, starts_with, take_records, taken, written, nat_tests, drop-append-le, drop_all, length-sealed, sealed_at-found, sealed_fits, magic_size, after_records-append, opens_behind, was_found, refuses_one, common_steps}
use Rattle.gts_standby.proofs.FeedLemmas.{feed_one, feed_none, at_entry, IsEnd, IsRecord}
use Rattle.gts_standby.proofs.FirstLemmas.{starts, fault_by}
use Rattle.gts_standby.proofs.HeaderLemmas.{header_on}
use Rattle.gts_standby.proofs.AddLemmas.{added_by, some_text, no_begin}
use Rattle.gts_standby.proofs.TakeLemmas.{sound_header}
use Rattle.gts_standby.proofs.FrontLemmas.{behind_by, records_by, come_by, unread_there, front_adds}

-- taken to its end, with records that lead from what a journal reads to on to this
abbrev pub Comes : Directory → State × ℕ × List ℕ → State × ℕ × List ℕ → Taken → Type 0
Comes d y x what = (what.end ≡ Ends) × (read_behind d y what.records ≡ x)

-- the state among that
pub read_state : (d : Directory) (y : State × ℕ × List ℕ) (rs : List Record) → (read_behind d y rs).0 ≡ after_records d y.0 rs
read_state d y [] = refl
read_state d y (r ∷ rs) = read_state d (after d y.0 (event_of_record r), y.1 + record_size written r, seal written y.2 (record_text r)) rs

-- ---- the records of a feed

pub drop_text : (text rest : List ℕ) (k : ℕ) → k ≡ length text → drop k (text ++ rest) ≡ rest
drop_text text rest k is = drop-append-le k text rest (omega (arith, is)) ∙ ap (λ (l : List ℕ). l ++ rest) (drop_all k text (omega (arith, is)))

nothing_fed : (d : Directory) (m : ℕ) (before : List ℕ) (s : State) (gate at : ℕ) → Comes d (s, gate + 1, before) (s, gate + 1, before) (add_all written d m before s gate at [])
nothing_fed d zero before s gate at = (refl, refl)
nothing_fed d (suc m) before s gate at = (refl, refl)

admitted_there : (d : Directory) (n file : ℕ) (before : List ℕ) (s : State) (gate : ℕ) (bytes : List ℕ) (x : State × ℕ × List ℕ) (r : Record) → entry_at written before file gate bytes ≡ Ok (Some r)
    → records_at written d (suc n) file before s gate bytes ≡ Ok x → admits written d s (gate + 1) r ≡ true
admitted_there d n file before s gate bytes x r is reads = by_admission (admits written d s (gate + 1) r) refl
  where
    by_admission : (b : Bool) → admits written d s (gate + 1) r ≡ b → admits written d s (gate + 1) r ≡ true
    by_admission true ok = ok
    by_admission false bad = absurd (let one : Read = Err (Damaged file (gate + 1)) in let e : one ≡ Ok x = sym (refuses_one written d n file before s gate bytes r is bad) ∙ reads in cc e)

-- what a journal reads from a gate on is what its feed adds
pub records_fed : (d : Directory) (n file m : ℕ) (before : List ℕ) (s : State) (gate at : ℕ) (bytes : List ℕ) (x : State × ℕ × List ℕ) → records_at written d n file before s gate bytes ≡ Ok x
    → length (feed_at written n before bytes) ≤ m → Comes d (s, gate + 1, before) x (add_all written d m before s gate at (feed_at written n before bytes))
records_fed d zero file m before s gate at bytes x reads long = absurd (cc reads)
records_fed d (suc n) file m before s gate at bytes x reads long = elim (at_entry written d n file before s gate bytes x reads) [
  | IsEnd is same ↦
      subst (λ (l : List ℕ). Comes d (s, gate + 1, before) x (add_all written d m before s gate at l)) (sym (feed_none written (suc n) file gate before bytes is))
      (subst (λ (y : State × ℕ × List ℕ). Comes d (s, gate + 1, before) y (add_all written d m before s gate at [])) (sym same) (nothing_fed d m before s gate at))
  | IsRecord r is more ↦
      let found = was_found written before file gate bytes r is in
      let text : List ℕ = sealed written before (record_text r) in
      let last : List ℕ = seal written before (record_text r) in
      let next : State = after d s (event_of_record r) in
      let size : ℕ = record_size written r - 1 in
      let rest : List ℕ = feed_at written n last (drop (record_size written r) bytes) in
      let one : feed_at written (suc n) before bytes ≡ text ++ rest = feed_one written n file gate before bytes r is in
      let there : sealed_at written before (text ++ rest) ≡ Some r = sealed_at-found written before r (text ++ rest) (sealed_fits written before found.0 r found.2) (rest, refl) in
      let ok = admitted_there d n file before s gate bytes x r is reads in
      let behind : record_behind written d before s gate (text ++ rest) ≡ Some r = ap (behind_by d s gate) there ∙ ap (λ (b : Bool). cond b (Some r) None) ok in
      let wide : length text ≡ size = omega (arith, length-sealed written before (record_text r)) in
      let some : 1 ≤ size = omega (arith, some_text r) in
      let whole : length text + length rest ≤ m = omega (arith, long, ap (λ (l : List ℕ). length l) one, length-append text rest) in
      let on = records_fed d n file (m - 1) last next (gate + record_size written r) (at + size) (drop (record_size written r) bytes) x more (omega (arith, whole, wide, some)) in
      let step : add_all written d m before s gate at (text ++ rest) ≡ adding r (add_all written d (m - 1) last next (gate + record_size written r) (at + size) rest) =
      ap (λ (k : ℕ). add_all written d k before s gate at (text ++ rest)) (let e : m ≡ suc (m - 1) = omega (arith, whole, wide, some) in e)
      ∙ ap (added_by d (m - 1) before s gate at (text ++ rest)) behind
      ∙ ap (λ (l : List ℕ). adding r (add_all written d (m - 1) last next (gate + record_size written r) (at + size) l)) (drop_text text rest size (sym wide)) in
      let far : gate + 1 + record_size written r ≡ gate + record_size written r + 1 = omega arith in
      let leads = ap (λ (k : ℕ). read_behind d (next, k, last) (add_all written d (m - 1) last next (gate + record_size written r) (at + size) rest).records) far ∙ on.1 in
      subst (λ (l : List ℕ). Comes d (s, gate + 1, before) x (add_all written d m before s gate at l)) (sym one) (subst (λ (t : Taken). Comes d (s, gate + 1, before) x t) (sym step) (on.0, leads))
]

-- none of them is a checkpoint
pub no_checkpoint : (d : Directory) (n file : ℕ) (before : List ℕ) (s : State) (gate : ℕ) (bytes : List ℕ) (x : State × ℕ × List ℕ) → records_at written d n file before s gate bytes ≡ Ok x
    → is_checkpoint_fed (feed_at written n before bytes) ≡ false
no_checkpoint d zero file before s gate bytes x reads = absurd (cc reads)
no_checkpoint d (suc n) file before s gate bytes x reads = elim (at_entry written d n file before s gate bytes x reads) [
  | IsEnd is same ↦ ap is_checkpoint_fed (feed_none written (suc n) file gate before bytes is)
  | IsRecord r is more ↦
      ap is_checkpoint_fed (feed_one written n file gate before bytes r is)
      ∙ by_record r (feed_at written n (seal written before (record_text r)) (drop (record_size written r) bytes))
]
  where
    by_record : (r : Record) (rest : List ℕ) → is_checkpoint_fed (sealed written before (record_text r) ++ rest) ≡ false
    by_record (Accept from kind position body) rest = refl
    by_record (Drew circuit position index) rest = refl

-- ---- the header

pub agreeing_all : (xs ys : List ℕ) → agreeing xs (xs ++ ys) ≡ length xs
agreeing_all [] ys = refl
agreeing_all (x ∷ xs) ys = grind (arith, common_steps, nat_tests, agreeing_all xs ys)

sound_tests : (mark : List ℕ) (file : ℕ) (bytes : List ℕ) (is_empty is_old begins is_short is_ours : Bool) → fault_by written mark file bytes is_empty is_old begins is_short is_ours ≡ None → (begins ≡ true) × (is_ours ≡ true)
sound_tests mark file bytes true is_old begins is_short is_ours is = absurd (cc is)
sound_tests mark file bytes false true begins is_short is_ours is = absurd (cc is)
sound_tests mark file bytes false false false is_short is_ours is = absurd (cc is)
sound_tests mark file bytes false false true true is_ours is = absurd (cc is)
sound_tests mark file bytes false false true false false is = absurd (cc is)
sound_tests mark file bytes false false true false true is = (refl, refl)

take_past : (xs ys : List ℕ) (k n : ℕ) → n ≡ length xs + k → take n (xs ++ ys) ≡ xs ++ take k ys
take_past [] ys k n is = ap (λ (m : ℕ). take m ys) (let e : n ≡ k = omega (arith, is) in e)
take_past (x ∷ xs) ys k zero is = absurd (omega (arith, is))
take_past (x ∷ xs) ys k (suc n) is = ap (λ (l : List ℕ). x ∷ l) (take_past xs ys k n (omega (arith, is)))

-- it is that of the directory
pub header_is : (d : Directory) (file : ℕ) (bytes : List ℕ) → header_fault written d.mark file bytes ≡ None → take 40 bytes ≡ magic written ++ d.mark
header_is d file bytes sound =
    let tests = sound_tests d.mark file bytes (length bytes == 0) (is_older written bytes) (starts_with nat_eq bytes (magic written)) (nat_lt (length bytes) 40) (pointwise nat_eq (take 32 (drop 8 bytes)) d.mark) sound in
    let begins : bytes ≡ magic written ++ drop (length (magic written)) bytes = starts bytes (magic written) tests.0 in
    let ours : take 32 (drop 8 bytes) ≡ d.mark = same_text (take 32 (drop 8 bytes)) d.mark (sym tests.1) in
    ap (take 40) begins
    ∙ take_past (magic written) (drop (length (magic written)) bytes) 32 40 (omega (arith, magic_size written))
    ∙ ap (λ (k : ℕ). magic written ++ take 32 (drop k bytes)) (magic_size written)
    ∙ ap (λ (l : List ℕ). magic written ++ l) ours

-- ---- a whole feed

module _ (d : Directory) (file : ℕ) (bytes : List ℕ) (x : State × ℕ × List ℕ) (size : length d.mark ≡ 32) (opened : file_opens written d file bytes ≡ Ok x) (plain : is_checkpoint bytes ≡ false) where
  abbrev first : List ℕ
  first = first_seal written d.mark

  abbrev sent : List ℕ
  sent = feed_at written (length bytes) first (drop 40 bytes)

  abbrev header : List ℕ
  header = magic written ++ d.mark

  sound : header_fault written d.mark file bytes ≡ None
  sound = sound_header written d file bytes x opened

  reads : records_at written d (length bytes) file first (empty d) 40 (drop 40 bytes) ≡ Ok x
  reads = sym (opens_behind written d file bytes false sound plain) ∙ opened

  forty : length header ≡ 40
  forty = omega (arith, size, magic_size written, length-append (magic written) d.mark)

  feed_is : feed written d.mark bytes ≡ header ++ sent
  feed_is = ap (λ (l : List ℕ). l ++ feed_behind written first bytes (is_checkpoint bytes)) (header_is d file bytes sound) ∙ ap (λ (b : Bool). header ++ feed_behind written first bytes b) plain

  all_is : taken written d (empty d) 40 first [] (feed written d.mark bytes) ≡ add_all written d (length sent) first (empty d) 40 40 sent
  all_is =
      let behind : taken written d (empty d) 40 first [] (header ++ sent) ≡ take_records written d (empty d) 40 first [] (drop 40 (header ++ sent)) =
      header_on header (header ++ sent) (agreeing_all header sent ∙ forty) (take_records written d (empty d) 40 first [] (drop 40 (header ++ sent))) in
      let letter : is_checkpoint_fed sent ≡ false = no_checkpoint d (length bytes) file first (empty d) 40 (drop 40 bytes) x reads in
      let adds : take_records written d (empty d) 40 first [] sent ≡ add_all written d (length sent) first (empty d) 40 40 sent = ap (records_by d (empty d) 40 first sent) letter in
      ap (taken written d (empty d) 40 first []) feed_is ∙ behind ∙ ap (take_records written d (empty d) 40 first []) (drop_text header sent 40 (sym forty)) ∙ adds

  pub plain_begins : (taken written d (empty d) 40 first [] (feed written d.mark bytes)).begins ≡ None
  plain_begins = ap (λ (t : Taken). t.begins) all_is ∙ no_begin d (length sent) first (empty d) 40 40 sent

  pub feed_comes : Comes d (empty d, 41, first) x (taken written d (empty d) 40 first [] (feed written d.mark bytes))
  feed_comes =
      subst (λ (t : Taken). Comes d (empty d, 41, first) x t) (sym all_is) (records_fed d (length bytes) file (length sent) first (empty d) 40 40 (drop 40 bytes) x reads (omega arith))

-- ---- a front of it

leads_by : (d : Directory) (s : State) (part whole : Taken) → AddsFront part whole → after_records d (empty d) whole.records ≡ s → LeadsTo d (after_records d (empty d) part.records) s
leads_by d s part whole (AddsNothing begins none) all =
    (whole.records, subst (λ (rs : List Record). s ≡ after_records d (after_records d (empty d) rs) whole.records) (sym none) (sym all))
leads_by d s part whole (AddsPart rest begins is) all = (rest, sym all ∙ ap (after_records d (empty d)) is ∙ after_records-append d (empty d) part.records rest)

pub front_leads : (d : Directory) (own files : Files) (s : State) (used : ℕ) (last fed more : List ℕ) (part : Taken) → length d.mark ≡ 32 → d.limit < 256 ^ 4 → own_seals d (selected_bytes own) ≡ []
    → files_read written d files ≡ Ok (s, used, last) → is_checkpoint (selected_bytes files) ≡ false → feed written d.mark (selected_bytes files) ≡ fed ++ more → comes_to d own fed ≡ Ok part
    → LeadsTo d (after_records d (empty d) part.records) s
front_leads d own files s used last fed more part size limit none opened plain sent here = by_read (files_read written d own) refl here
  where
    by_read : (r : Read) → files_read written d own ≡ r → come_by d own fed r ≡ Ok part → LeadsTo d (after_records d (empty d) part.records) s
    by_read (Err fault) is come = absurd (cc come)
    by_read (Ok read) is come =
        let first : List ℕ = first_seal written d.mark in
        let whole : Taken = taken written d read.0 (read.1 - 1) read.2 (own_seals d (selected_bytes own)) (fed ++ more) in
        let there : comes_to d own (fed ++ more) ≡ Ok whole = ap (come_by d own (fed ++ more)) is in
        let same : read ≡ (empty d, 41, first) = unread_there d own read is none in
        let all = feed_comes d (selected files) (selected_bytes files) (s, used, last) size opened plain in
        let whole_is : whole ≡ taken written d (empty d) 40 first [] (feed written d.mark (selected_bytes files)) =
        ap (λ (y : State × ℕ × List ℕ). taken written d y.0 (y.1 - 1) y.2 (own_seals d (selected_bytes own)) (fed ++ more)) same
        ∙ ap (λ (l : List (List ℕ)). taken written d (empty d) 40 first l (fed ++ more)) none
        ∙ ap (taken written d (empty d) 40 first []) (sym sent) in
        leads_by d s part whole (front_adds d own fed more part whole size limit here there) (ap (λ (t : Taken). after_records d (empty d) t.records) whole_is ∙ sym (read_state d (empty d, 41, first) (taken written d (empty d) 40 first [] (feed written d.mark (selected_bytes files))).records) ∙ ap (λ (y : State × ℕ × List ℕ). y.0) all.1)
