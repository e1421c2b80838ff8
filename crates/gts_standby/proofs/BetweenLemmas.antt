-- What a standby has and what it lacks are the feed.
use Rattle.gts_standby.proofs.Cited.{◌≡◌, ℕ, zero, suc, ◌+◌, ◌-◌, ◌≤◌, Bool, true, false, ◌&&◌, nat_eq, nat_le, List, [], ◌∷◌, ◌++◌, length, take, drop, Option, Some, None, Ok, Err, refl, sym, ap, subst, ◌∙◌, arith, append_assoc, ◌==◌, AreOneBySeal, Damaged, Directory, Files, IsFoundBehind, Need, Read, Record, StandsFed, State, Version, admits_checkpoint, after, begun, behind_at, behind_place, checkpoint_text, compacted_bytes, empty, event_of_record, feed_at, feed_behind, file_opens, first_seal, header_fault, held, is_checkpoint, magic, need_in, pointwise, record_size, record_text, records_at, records_fed, same_text, seal, seal_behind, seal_size, sealed, selected, selected_bytes, where_so, written, and_parts, eqb-true, append-nil, take_all, length-seal, opens_behind, common_steps}
use Rattle.gts_standby.specs.Cited.{record_at}
use Rattle.gts_standby.proofs.BehindLemmas.{feed_on}
use Rattle.gts_standby.proofs.FeedLemmas.{feed_one, feed_none, IsEnd, IsRecord, at_entry}
use Rattle.gts_standby.proofs.FirstLemmas.{by_admission}
use Rattle.gts_standby.proofs.HistoryLemmas.{header_is}
use Rattle.gts_standby.proofs.SinceLemmas.{by_place}
use Rattle.gts_standby.proofs.TakeLemmas.{sound_header}

-- the place of the gate behind these records
abbrev gate_behind : Version → List (List ℕ) → ℕ
gate_behind v [] = 40
gate_behind v (text ∷ texts) = gate_behind v texts + (length text + seal_size v + 1)

low_gate : (v : Version) (texts : List (List ℕ)) → 40 ≤ gate_behind v texts
low_gate v [] = omega arith
low_gate v (text ∷ texts) = omega (arith, low_gate v texts)

-- What is sent behind a header has these records in front of a gate at this place, with this seal before it, and this behind it.
record IsFront (v : Version) (first whole : List ℕ) (place : ℕ) (last left : List ℕ) : Type 0 where
  texts : List (List ℕ)
  gate : gate_behind v texts ≡ place
  last_is : seal_behind v first texts ≡ last
  is : whole ≡ records_fed v first texts ++ left

-- behind one record more
one_more : (v : Version) (first whole : List ℕ) (gate : ℕ) (before left text rest : List ℕ) → IsFront v first whole gate before left → left ≡ sealed v before text ++ rest
    → IsFront v first whole (gate + (length text + seal_size v + 1)) (seal v before text) rest
one_more v first whole gate before left text rest f next = record {
  texts = text ∷ f.texts;
  gate = ap (λ (k : ℕ). k + (length text + seal_size v + 1)) f.gate;
  last_is = ap (λ (b : List ℕ). seal v b text) f.last_is;
  is = f.is ∙ ap (λ (l : List ℕ). records_fed v first f.texts ++ l) next
      ∙ ap (λ (b : List ℕ). records_fed v first f.texts ++ (sealed v b text ++ rest)) (sym f.last_is)
      ∙ sym (append_assoc (records_fed v first f.texts) (sealed v (seal_behind v first f.texts) text) rest);
}

-- ---- in front of a place that was found

none_some : (left : List ℕ) → None ≡ Some left → ⊥
none_some left is = let none : Option (List ℕ) = None in let f : none ≡ Some left = is in cc f

-- one gate, where it is so of the gates behind it
front_step : (v : Version) (first whole : List ℕ) (n : ℕ) (before : List ℕ) (gate : ℕ) (bytes : List ℕ) (place : ℕ) (last left : List ℕ)
    → IsFront v first whole gate before (feed_at v (suc n) before bytes)
    → ((b : List ℕ) (k : ℕ) (l : List ℕ) → IsFront v first whole k b (feed_at v n b l) → behind_at v n b k l place last ≡ Some left → IsFront v first whole place last left)
    → (b : Bool) → by_place v n before gate bytes place last b ≡ Some left → IsFront v first whole place last left
front_step v first whole n before gate bytes place last left f next true so = by_here (gate == place && pointwise nat_eq before last) refl so
  where
    by_here : (b : Bool) → (gate == place && pointwise nat_eq before last) ≡ b → where_so b (feed_at v (suc n) before bytes) ≡ Some left → IsFront v first whole place last left
    by_here false e found = absurd (none_some left found)
    by_here true e found =
        let here = and_parts (gate == place) (pointwise nat_eq before last) e in
        let same : feed_at v (suc n) before bytes ≡ left = cc found in
        record {
          texts = f.texts;
          gate = f.gate ∙ eqb-true gate place here.0;
          last_is = f.last_is ∙ same_text before last (sym here.1);
          is = f.is ∙ ap (λ (l : List ℕ). records_fed v first f.texts ++ l) same;
        }
front_step v first whole n before gate bytes place last left f next false so = by_found (record_at v before bytes) refl so
  where
    by_found : (o : Option Record) → record_at v before bytes ≡ o
        → elim o as (λ _. Option (List ℕ)) [ None ↦ None | Some r ↦ behind_at v n (seal v before (record_text r)) (gate + record_size v r) (drop (record_size v r) bytes) place last ] ≡ Some left
        → IsFront v first whole place last left
    by_found None e found = absurd (none_some left found)
    by_found (Some r) e found =
        next (seal v before (record_text r)) (gate + record_size v r) (drop (record_size v r) bytes)
        (one_more v first whole gate before (feed_at v (suc n) before bytes) (record_text r) (feed_at v n (seal v before (record_text r)) (drop (record_size v r) bytes)) f (feed_on v n before bytes r e)) found

front_at : (v : Version) (first whole : List ℕ) (n : ℕ) (before : List ℕ) (gate : ℕ) (bytes : List ℕ) (place : ℕ) (last left : List ℕ)
    → IsFront v first whole gate before (feed_at v n before bytes) → behind_at v n before gate bytes place last ≡ Some left → IsFront v first whole place last left
front_at v first whole zero before gate bytes place last left f is = absurd (none_some left is)
front_at v first whole (suc n) before gate bytes place last left f is =
    front_step v first whole n before gate bytes place last left f (λ b k l g found. front_at v first whole n b k l place last left g found) (nat_le place gate) is

-- what is sent behind the header, from the first gate on or behind the checkpoint
begins_plain : (v : Version) (first bytes : List ℕ) → IsFront v first (feed_behind v first bytes false) 40 first (feed_at v (length bytes) first (drop 40 bytes))
begins_plain v first bytes = record { texts = []; gate = refl; last_is = refl; is = refl }

begins_packed : (v : Version) (first bytes : List ℕ)
    → IsFront v first (feed_behind v first bytes true) (compacted_bytes v (need_in (drop 41 bytes)) - 1) (seal v first (checkpoint_text (need_in (drop 41 bytes))))
    (feed_at v (length bytes) (seal v first (checkpoint_text (need_in (drop 41 bytes)))) (drop (compacted_bytes v (need_in (drop 41 bytes)) - 1) bytes))
begins_packed v first bytes =
    let text : List ℕ = checkpoint_text (need_in (drop 41 bytes)) in
    record { texts = text ∷ []; gate = omega arith; last_is = refl; is = refl }

front_found : (v : Version) (first bytes : List ℕ) (place : ℕ) (last left : List ℕ) (b : Bool) → behind_place v first bytes place last b ≡ Some left
    → IsFront v first (feed_behind v first bytes b) place last left
front_found v first bytes place last left false is = grind (arith, common_steps, front_at, begins_plain)
front_found v first bytes place last left true is =
    let n : Need = need_in (drop 41 bytes) in
    front_at v first (feed_behind v first bytes true) (length bytes) (seal v first (checkpoint_text n)) (compacted_bytes v n - 1) (drop (compacted_bytes v n - 1) bytes) place last left (begins_packed v first bytes) is

-- ---- all that a journal has

all_at : (v : Version) (d : Directory) (file : ℕ) (first whole : List ℕ) (n : ℕ) (before : List ℕ) (s : State) (gate : ℕ) (bytes : List ℕ) (x : State × ℕ × List ℕ)
    → IsFront v first whole gate before (feed_at v n before bytes) → records_at v d n file before s gate bytes ≡ Ok x → IsFront v first whole (x.1 - 1) x.2 []
all_at v d file first whole zero before s gate bytes x f opens = absurd (cc opens)
all_at v d file first whole (suc n) before s gate bytes x f opens = elim (at_entry v d n file before s gate bytes x opens) [
  | IsEnd is same ↦
      record {
        texts = f.texts;
        gate = f.gate ∙ (let at : x.1 ≡ gate + 1 = ap (λ (y : State × ℕ × List ℕ). y.1) same in omega (arith, at));
        last_is = f.last_is ∙ sym (ap (λ (y : State × ℕ × List ℕ). y.2) same);
        is = f.is ∙ ap (λ (l : List ℕ). records_fed v first f.texts ++ l) (feed_none v (suc n) file gate before bytes is);
      }
  | IsRecord r is more ↦
      all_at v d file first whole n (seal v before (record_text r)) (after d s (event_of_record r)) (gate + record_size v r) (drop (record_size v r) bytes) x
      (one_more v first whole gate before (feed_at v (suc n) before bytes) (record_text r) (feed_at v n (seal v before (record_text r)) (drop (record_size v r) bytes)) f (feed_one v n file gate before bytes r is)) more
]

module _ (d : Directory) (file : ℕ) (bytes : List ℕ) (x : State × ℕ × List ℕ) (opened : file_opens written d file bytes ≡ Ok x) where
  sound : header_fault written d.mark file bytes ≡ None
  sound = sound_header written d file bytes x opened

  all_by : (b : Bool) → is_checkpoint bytes ≡ b → IsFront written (first_seal written d.mark) (feed_behind written (first_seal written d.mark) bytes b) (x.1 - 1) x.2 []
  all_by false plain =
      all_at written d file (first_seal written d.mark) (feed_behind written (first_seal written d.mark) bytes false) (length bytes) (first_seal written d.mark) (empty d) 40 (drop 40 bytes) x
      (begins_plain written (first_seal written d.mark) bytes) (sym (opens_behind written d file bytes false sound plain) ∙ opened)
  all_by true packed = by_test (admits_checkpoint written d (drop 41 bytes) (need_in (drop 41 bytes))) (sym (opens_behind written d file bytes true sound packed) ∙ opened)
    where
      by_test : (b : Bool) → by_admission written d file bytes (need_in (drop 41 bytes)) b ≡ Ok x
          → IsFront written (first_seal written d.mark) (feed_behind written (first_seal written d.mark) bytes true) (x.1 - 1) x.2 []
      by_test false reads = absurd (let one : Read = Err (Damaged file 41) in let e : one ≡ Ok x = reads in cc e)
      by_test true reads =
          let m : Need = need_in (drop 41 bytes) in
          all_at written d file (first_seal written d.mark) (feed_behind written (first_seal written d.mark) bytes true) (length bytes) (seal written (first_seal written d.mark) (checkpoint_text m)) (begun m)
          (compacted_bytes written m - 1) (drop (compacted_bytes written m - 1) bytes) x (begins_packed written (first_seal written d.mark) bytes) reads

  header : take 40 bytes ≡ magic written ++ d.mark
  header = header_is d file bytes sound

-- ---- one seal, one record

module _ (v : Version) (mark one other : List ℕ) (own : AreOneBySeal v mark one other) where
  stands : (fed text more : List ℕ) (texts : List (List ℕ)) → fed ≡ (magic v ++ mark) ++ (records_fed v (first_seal v mark) (text ∷ texts) ++ more)
      → StandsFed v mark fed (seal_behind v (first_seal v mark) texts) text
  stands fed text more texts here = record { texts = texts; before_is = refl; more = more; is = here ∙ sym (append_assoc (magic v ++ mark) (records_fed v (first_seal v mark) (text ∷ texts)) more) }

  less : (fed text more : List ℕ) (texts : List (List ℕ)) → fed ≡ (magic v ++ mark) ++ (records_fed v (first_seal v mark) (text ∷ texts) ++ more)
      → fed ≡ (magic v ++ mark) ++ (records_fed v (first_seal v mark) texts ++ (sealed v (seal_behind v (first_seal v mark) texts) text ++ more))
  less fed text more texts is =
      is ∙ ap (λ (l : List ℕ). (magic v ++ mark) ++ l) (append_assoc (records_fed v (first_seal v mark) texts) (sealed v (seal_behind v (first_seal v mark) texts) text) more)

  same_texts : (ts us : List (List ℕ)) (more rest : List ℕ) → one ≡ (magic v ++ mark) ++ (records_fed v (first_seal v mark) ts ++ more)
      → other ≡ (magic v ++ mark) ++ (records_fed v (first_seal v mark) us ++ rest)
      → gate_behind v ts ≡ gate_behind v us → seal_behind v (first_seal v mark) ts ≡ seal_behind v (first_seal v mark) us → ts ≡ us
  same_texts [] [] more rest here there gate last = refl
  same_texts [] (u ∷ us) more rest here there gate last = absurd (omega (arith, gate, low_gate v us))
  same_texts (t ∷ ts) [] more rest here there gate last = absurd (omega (arith, gate, low_gate v ts))
  same_texts (t ∷ ts) (u ∷ us) more rest here there gate last =
      let both = own (seal_behind v (first_seal v mark) ts) t (seal_behind v (first_seal v mark) us) u (stands one t more ts here) (stands other u rest us there) last in
      let size : length t ≡ length u = ap (λ (l : List ℕ). length l) both.1 in
      let tails : ts ≡ us =
      same_texts ts us (sealed v (seal_behind v (first_seal v mark) ts) t ++ more) (sealed v (seal_behind v (first_seal v mark) us) u ++ rest) (less one t more ts here) (less other u rest us there)
      (omega (arith, gate, size)) both.0 in
      ap (λ (x : List ℕ). x ∷ ts) both.1 ∙ ap (λ (xs : List (List ℕ)). u ∷ xs) tails

-- ---- the whole

-- a last seal is held whole
held_whole : (v : Version) (mark : List ℕ) (texts : List (List ℕ)) → held v (seal_behind v (first_seal v mark) texts) ≡ seal_behind v (first_seal v mark) texts
held_whole v mark [] = take_all (seal_size v) (first_seal v mark) (omega (arith, length-seal v [] (magic v ++ mark)))
held_whole v mark (text ∷ texts) = grind (arith, common_steps, take_all, length-seal)

pub feed_between : (d : Directory) (own files : Files) (fed whole left : List ℕ) → IsFoundBehind d own files fed whole left → whole ≡ fed ++ left
feed_between d own files fed whole left h =
    let there : List ℕ = selected_bytes files in
    let begin : List ℕ = first_seal written d.mark in
    let head : List ℕ = magic written ++ d.mark in
    let f = all_by d (selected own) (selected_bytes own) h.from h.has.reads (is_checkpoint (selected_bytes own)) refl in
    let last : held written h.from.2 ≡ h.from.2 = subst (λ (l : List ℕ). held written l ≡ l) f.last_is (held_whole written d.mark f.texts) in
    let g =
    front_found written begin there (h.from.1 - 1) h.from.2 left (is_checkpoint there)
    (ap (λ (l : List ℕ). behind_place written begin there (h.from.1 - 1) l (is_checkpoint there)) (sym last) ∙ h.found) in
    let fed_is : fed ≡ head ++ (records_fed written begin f.texts ++ []) =
    sym h.has.is ∙ ap (λ (l : List ℕ). l ++ feed_behind written begin (selected_bytes own) (is_checkpoint (selected_bytes own))) (header d (selected own) (selected_bytes own) h.from h.has.reads)
    ∙ ap (λ (l : List ℕ). head ++ l) f.is in
    let whole_is : whole ≡ head ++ (records_fed written begin g.texts ++ left) =
    sym h.all.is ∙ ap (λ (l : List ℕ). l ++ feed_behind written begin there (is_checkpoint there)) (header d (selected files) there h.read h.all.reads)
    ∙ ap (λ (l : List ℕ). head ++ l) g.is in
    let texts : f.texts ≡ g.texts =
    same_texts written d.mark fed whole h.one f.texts g.texts [] left fed_is whole_is (f.gate ∙ sym g.gate) (f.last_is ∙ sym g.last_is) in
    whole_is
    ∙ ap (λ (ts : List (List ℕ)). head ++ (records_fed written begin ts ++ left)) (sym texts)
    ∙ sym (append_assoc head (records_fed written begin f.texts) left)
    ∙ ap (λ (l : List ℕ). l ++ left) (sym (fed_is ∙ ap (λ (l : List ℕ). head ++ l) (append-nil (records_fed written begin f.texts))))
