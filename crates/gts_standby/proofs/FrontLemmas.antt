-- What a front of a feed adds is a front of what the feed adds.
use Rattle.gts_standby.proofs.Cited.{◌≡◌, inr, ℕ, zero, suc, ◌+◌, ◌-◌, ◌^◌, ◌<◌, ◌≤◌, Bool, true, false, cond, ◌&&◌, List, [], ◌∷◌, ◌++◌, length, take, drop, Option, Some, None, Result, Ok, Err, nat_eq, nat_le, refl, sym, ap, subst, ◌∙◌, arith, length-append, ◌==◌, not, AddsFront, AddsNothing, AddsPart, Bad, Behind, Breaks, Broken, Bulletin, Circuit, Cut, Directory, End, Ends, FRONT, Files, InFeed, Listed, Need, OpenFault, Parts, Piece, Reached, Read, Record, Sealed, Short, State, Taken, Version, add_all, adding, admits, admits_checkpoint, after, agreeing, and_then, begin_first, begin_with, begun, begun_taken, behind_all, behind_checkpoint, behind_counted, behind_front, behind_one, by_piece, checkpoint_piece, checkpoint_seals, checkpoint_text, comes_to, compacted_bytes, compare_all, compared, empty, entry_at, event_of_record, files_read, first_piece, first_seal, front_counts, is_behind, is_checkpoint, is_checkpoint_fed, is_further, is_other_first, listed_size, magic, may_be_cut, need, need_in, or_anew, own_seals, pointwise, reach, reach_found, record_behind, record_piece, record_size, record_text, records_at, seal, seal_size, sealed_at, seals_at, seals_behind, selected, selected_bytes, starts_with, stopped, take_records, taken, written, and_parts, ltb-false, nat_tests, append-nil, drop-append-le, magic_size, front_more, listed_low, listed_more, opens_behind, reads_end_there, reads_fault, common_steps}
use Rattle.std.proofs.lemmas.List.{length-drop}
use Rattle.gts_standby.proofs.HeaderLemmas.{all_agree, agreeing-low}
use Rattle.gts_standby.proofs.FedLemmas.{sealed_more, found_fits_there, piece_by}
use Rattle.gts_standby.proofs.ScanLemmas.{reach_on, sealed_piece}
use Rattle.gts_standby.proofs.AddLemmas.{added_by, not_empty, some_text, no_begin}
use Rattle.gts_standby.proofs.PutLemmas.{behind_it, begins_so, checkpoint_there, sealed_parts}
use Rattle.gts_standby.proofs.FeedLemmas.{seals_one}
use Rattle.gts_standby.proofs.TakeLemmas.{sound_header, stays, add_ends}
pub use Rattle.gts_standby.proofs.TakeLemmas.{come_by}

-- ---- records that are added

abbrev pub behind_by : Directory → State → ℕ → Option Record → Option Record
behind_by d s gate o = elim o as (λ _. Option Record) [ None ↦ None | Some r ↦ cond (admits written d s (gate + 1) r) (Some r) None ]

-- a record that may stand next by a front may by the whole
record_more : (d : Directory) (before : List ℕ) (s : State) (gate : ℕ) (p more : List ℕ) (r : Record) → record_behind written d before s gate p ≡ Some r
    → (record_behind written d before s gate (p ++ more) ≡ Some r) × (record_size written r - 1 ≤ length p)
record_more d before s gate p more r is = by_sealed (sealed_at written before p) refl is
  where
    fits : (q : Record) → sealed_at written before p ≡ Some q → record_size written q - 1 ≤ length p
    fits q found = found_fits_there written before p q (record_size written q - 1) found (let e : record_size written q - 1 ≡ length (record_text q) + seal_size written = omega arith in e)

    by_admission : (q : Record) (b : Bool) → sealed_at written before p ≡ Some q → admits written d s (gate + 1) q ≡ b → cond b (Some q) None ≡ Some r
        → (record_behind written d before s gate (p ++ more) ≡ Some r) × (record_size written r - 1 ≤ length p)
    by_admission q false found ok is = absurd (cc is)
    by_admission q true found ok is =
        let same : q ≡ r = cc is in (
          ap (behind_by d s gate) (sealed_more written before p more q found) ∙ ap (λ (b : Bool). cond b (Some q) None) ok ∙ is,
          subst (λ (x : Record). record_size written x - 1 ≤ length p) same (fits q found),
        )

    by_sealed : (o : Option Record) → sealed_at written before p ≡ o → behind_by d s gate o ≡ Some r
        → (record_behind written d before s gate (p ++ more) ≡ Some r) × (record_size written r - 1 ≤ length p)
    by_sealed None found is = absurd (let e : None ≡ Some r = is in cc e)
    by_sealed (Some q) found is = by_admission q (admits written d s (gate + 1) q) found refl is

-- the records that a front adds are a first part of those of the whole
add_front : (d : Directory) (n m : ℕ) (before : List ℕ) (s : State) (gate at : ℕ) (p more : List ℕ) → length p + length more ≤ m
    → (rest : List Record) × ((add_all written d m before s gate at (p ++ more)).records ≡ (add_all written d n before s gate at p).records ++ rest)
add_front d zero m before s gate at p more long = ((add_all written d m before s gate at (p ++ more)).records, refl)
add_front d (suc n) m before s gate at p more long =
    by_record (record_behind written d before s gate p) refl
    (λ r left.
    add_front d n (m - 1) (seal written before (record_text r)) (after d s (event_of_record r)) (gate + record_size written r) (at + (record_size written r - 1)) (drop (record_size written r - 1) p) more left)
  where
    by_cut : (b : Bool) → (cond b (stopped Ends) (stopped (Breaks at))).records ≡ []
    by_cut true = refl
    by_cut false = refl

    on_with : ℕ → Record → List ℕ → Taken
    on_with k r l = add_all written d k (seal written before (record_text r)) (after d s (event_of_record r)) (gate + record_size written r) (at + (record_size written r - 1)) l

    by_record : (o : Option Record) → record_behind written d before s gate p ≡ o
        → ((r : Record) → length (drop (record_size written r - 1) p) + length more ≤ m - 1
        → (rest : List Record) × ((on_with (m - 1) r (drop (record_size written r - 1) p ++ more)).records ≡ (on_with n r (drop (record_size written r - 1) p)).records ++ rest))
        → (rest : List Record) × ((add_all written d m before s gate at (p ++ more)).records ≡ (added_by d n before s gate at p o).records ++ rest)
    by_record None is so =
        let all : List Record = (add_all written d m before s gate at (p ++ more)).records in
        (all, ap (λ (l : List Record). l ++ all) (sym (by_cut (may_be_cut written p))))
    by_record (Some r) is so =
        let found = record_more d before s gate p more r is in
        let size : ℕ = record_size written r - 1 in
        let some = not_empty d before s gate p r is in
        let left : length (drop size p) + length more ≤ m - 1 = omega (arith, long, some, found.1, some_text r, length-drop size p) in
        let on = so r left in
        let one : add_all written d m before s gate at (p ++ more) ≡ adding r (on_with (m - 1) r (drop size (p ++ more))) =
        ap (λ (k : ℕ). add_all written d k before s gate at (p ++ more)) (let e : m ≡ suc (m - 1) = omega (arith, long, some) in e)
        ∙ ap (added_by d (m - 1) before s gate at (p ++ more)) found.0 in (
          on.0,
          ap (λ (t : Taken). t.records) one
              ∙ ap (λ (l : List ℕ). r ∷ (on_with (m - 1) r l).records) (drop-append-le size p more found.1)
              ∙ ap (λ (l : List Record). r ∷ l) on.1,
        )

add_adds : (d : Directory) (n m : ℕ) (before : List ℕ) (s : State) (gate at : ℕ) (p more : List ℕ) → length p + length more ≤ m
    → AddsFront (add_all written d n before s gate at p) (add_all written d m before s gate at (p ++ more))
add_adds d n m before s gate at p more long =
    let front = add_front d n m before s gate at p more long in
    AddsPart front.0 (no_begin d n before s gate at p ∙ sym (no_begin d m before s gate at (p ++ more))) front.1

-- ---- pieces

-- a record that stands at the front of a front stands at that of the whole
piece_more : (v : Version) (before p more : List ℕ) (size : ℕ) (last : List ℕ) → record_piece v before p ≡ Sealed size last → (record_piece v before (p ++ more) ≡ Sealed size last) × (size ≤ length p)
piece_more v before p more size last is = by_sealed (sealed_at v before p) refl is
  where
    by_cut : (b : Bool) → cond b Cut Broken ≡ Sealed size last → ⊥
    by_cut true e = absurd (cc e)
    by_cut false e = absurd (cc e)

    by_sealed : (o : Option Record) → sealed_at v before p ≡ o → piece_by v before p o ≡ Sealed size last → (record_piece v before (p ++ more) ≡ Sealed size last) × (size ≤ length p)
    by_sealed None found is = absurd (by_cut (may_be_cut v p) is)
    by_sealed (Some r) found is =
        let at : record_size v r - 1 ≡ size = cc is in (
          ap (piece_by v before (p ++ more)) (sealed_more v before p more r found) ∙ is,
          found_fits_there v before p r size found (let e : size ≡ length (record_text r) + seal_size v = omega (arith, at) in e),
        )

-- a place that is reached in a front is reached in the whole
reach_more : (limit : ℕ) (p more : List ℕ) (at size k : ℕ) → reach limit p at size ≡ Behind k → (reach limit (p ++ more) at size ≡ Behind k) × (at + size ≤ length p)
reach_more limit p more at size k is = grind (arith, common_steps, ltb-false, reach_on)

one_more : (listed : Listed) (limit : ℕ) (p more : List ℕ) (at k : ℕ) → behind_one listed limit p at ≡ Behind k → behind_one listed limit (p ++ more) at ≡ Behind k
one_more listed limit p more at k is = by_size (listed_size listed (drop at p)) refl is
  where
    by_size : (o : Option ℕ) → listed_size listed (drop at p) ≡ o → reach_found limit p at o ≡ Behind k → behind_one listed limit (p ++ more) at ≡ Behind k
    by_size None e is = absurd (cc is)
    by_size (Some size) e is =
        let on = reach_more limit p more at size k is in
        let low = listed_low listed (drop at p) size e in
        ap (λ (l : List ℕ). reach_found limit (p ++ more) at (listed_size listed l)) (drop-append-le at p more (omega (arith, on.1)))
        ∙ ap (reach_found limit (p ++ more) at) (listed_more listed (drop at p) more (omega (arith, length-drop at p, on.1, low)) ∙ e) ∙ on.0

reached_by : (one : Reached) (next : ℕ → Reached) (k : ℕ) → and_then one next ≡ Behind k → (j : ℕ) × (one ≡ Behind j) × (next j ≡ Behind k)
reached_by Short next k is = absurd (cc is)
reached_by Bad next k is = absurd (cc is)
reached_by (Behind j) next k is = (j, refl, is)

all_more : (one other : ℕ → Reached) → ((at k : ℕ) → one at ≡ Behind k → other at ≡ Behind k) → (count at k : ℕ) → behind_all one count at ≡ Behind k → behind_all other count at ≡ Behind k
all_more one other so zero at k is = is
all_more one other so (suc n) at k is =
    let first = reached_by (one at) (behind_all one n) k is in
    ap (λ (r : Reached). and_then r (behind_all other n)) (so at first.0 first.1) ∙ all_more one other so n first.0 k first.2

counted_more : (limit : ℕ) (p more : List ℕ) (bulletins circuits k : ℕ) → behind_counted limit p bulletins circuits ≡ Behind k → behind_counted limit (p ++ more) bulletins circuits ≡ Behind k
counted_more limit p more bulletins circuits k is =
    let listed : List ℕ → ℕ → Reached = λ l at. and_then (behind_all (behind_one Bulletin limit l) bulletins at) (behind_all (behind_one Circuit limit l) circuits) in
    let front = reached_by (reach limit p 0 FRONT) (listed p) k is in
    let first = reached_by (behind_all (behind_one Bulletin limit p) bulletins front.0) (behind_all (behind_one Circuit limit p) circuits) k front.2 in
    ap (λ (r : Reached). and_then r (listed (p ++ more))) (reach_more limit p more 0 FRONT front.0 front.1).0
    ∙ ap (λ (r : Reached). and_then r (behind_all (behind_one Circuit limit (p ++ more)) circuits))
    (all_more (behind_one Bulletin limit p) (behind_one Bulletin limit (p ++ more)) (one_more Bulletin limit p more) bulletins front.0 first.0 first.1)
    ∙ all_more (behind_one Circuit limit p) (behind_one Circuit limit (p ++ more)) (one_more Circuit limit p more) circuits first.0 k first.2

front_there : (limit : ℕ) (p : List ℕ) (bulletins circuits k : ℕ) → behind_counted limit p bulletins circuits ≡ Behind k → FRONT ≤ length p
front_there limit p bulletins circuits k is = grind (arith, common_steps, reach_more)

reached_more : (limit : ℕ) (p more : List ℕ) (k : ℕ) → behind_checkpoint limit p ≡ Behind k → behind_checkpoint limit (p ++ more) ≡ Behind k
reached_more limit p more k is = by_counts (front_counts p) refl is
  where
    by_counts : (o : Option (ℕ × ℕ)) → front_counts p ≡ o → behind_front limit p o ≡ Behind k → behind_checkpoint limit (p ++ more) ≡ Behind k
    by_counts None e is = absurd (cc is)
    by_counts (Some counts) e is =
        ap (behind_front limit (p ++ more)) (front_more p more (front_there limit p counts.1 counts.0 k is) ∙ e) ∙ counted_more limit p more counts.1 counts.0 k is

-- so a checkpoint does
pub checkpoint_more : (v : Version) (limit : ℕ) (before p more : List ℕ) (size : ℕ) (last : List ℕ) → checkpoint_piece v limit before p ≡ Sealed size last
    → (checkpoint_piece v limit before (p ++ more) ≡ Sealed size last) × (size ≤ length p)
checkpoint_more v limit before p more size last is =
    let s = sealed_parts v limit before p size last is in
    let k : ℕ = size - seal_size v in
    let low : k + seal_size v ≤ length p = omega (arith, s.size_is, s.there) in
    let front : InFeed = record { bytes = p; is_all = false } in
    let all : InFeed = record { bytes = p; is_all = true } in
    let b : Bool = starts_with nat_eq (drop k p) (seal v before (take k p)) in
    let there = sealed_piece v limit k before (p ++ more) more front b (reached_more limit p more k s.reached) (record { is = refl; all = λ e. absurd (cc e) }) low refl in
    let here = sealed_piece v limit k before p [] all b s.reached (record { is = sym (append-nil p); all = λ _. refl }) low refl in
    (there ∙ sym here ∙ is, s.there)

abbrev pub first_by : Version → ℕ → List ℕ → List ℕ → Bool → Piece
first_by v limit before bytes b = cond b (checkpoint_piece v limit before bytes) (record_piece v before bytes)

first_more : (v : Version) (limit : ℕ) (before p more : List ℕ) (size : ℕ) (last : List ℕ) → first_piece v limit before p ≡ Sealed size last
    → (first_piece v limit before (p ++ more) ≡ Sealed size last) × (size ≤ length p)
first_more v limit before [] more size last is = absurd (let e : Cut ≡ Sealed size last = is in cc e)
first_more v limit before (x ∷ p) more size last is = by_letter (is_checkpoint_fed (x ∷ p)) refl is
  where
    by_letter : (b : Bool) → is_checkpoint_fed (x ∷ p) ≡ b → first_by v limit before (x ∷ p) b ≡ Sealed size last
        → (first_piece v limit before ((x ∷ p) ++ more) ≡ Sealed size last) × (size ≤ length (x ∷ p))
    by_letter false letter e = let on = piece_more v before (x ∷ p) more size last e in (ap (first_by v limit before ((x ∷ p) ++ more)) letter ∙ on.0, on.1)
    by_letter true letter e = let on = checkpoint_more v limit before (x ∷ p) more size last e in (ap (first_by v limit before ((x ∷ p) ++ more)) letter ∙ on.0, on.1)

-- ---- what a feed comes to

by_piece_front : (at : ℕ) (one other : Piece) (next further : ℕ → List ℕ → Taken) → ((size : ℕ) (last : List ℕ) → one ≡ Sealed size last → (other ≡ Sealed size last) × AddsFront (next size last) (further size last))
    → AddsFront (by_piece at one next) (by_piece at other further)
by_piece_front at Cut other next further so = AddsNothing refl refl
by_piece_front at Broken other next further so = AddsNothing refl refl
by_piece_front at (Sealed size last) other next further so =
    let on = so size last refl in subst (λ (x : Piece). AddsFront (next size last) (by_piece at x further)) (sym on.0) on.1

compared_front : (index : ℕ) (own fed : List ℕ) (part whole : Taken) → AddsFront part whole → AddsFront (compared index own fed part) (compared index own fed whole)
compared_front index own fed part whole so = by_same (pointwise nat_eq own fed)
  where
    by_same : (b : Bool) → AddsFront (cond b part (stopped (Parts index own fed))) (cond b whole (stopped (Parts index own fed)))
    by_same true = so
    by_same false = AddsNothing refl refl

compare_front : (v : Version) (one other : ℕ → List ℕ → Taken) (more : List ℕ) → ((at : ℕ) (p : List ℕ) → AddsFront (one at p) (other at (p ++ more))) → (own : List (List ℕ)) (before : List ℕ) (index at : ℕ) (p : List ℕ)
    → AddsFront (compare_all v one own before index at p) (compare_all v other own before index at (p ++ more))
compare_front v one other more so [] before index at p = so at p
compare_front v one other more so (own ∷ rest) before index at p =
    by_piece_front at (record_piece v before p) (record_piece v before (p ++ more))
    (λ size fed. compared index own fed (compare_all v one rest own (index + 1) (at + size) (drop size p)))
    (λ size fed. compared index own fed (compare_all v other rest own (index + 1) (at + size) (drop size (p ++ more))))
    (λ size last is.
    let on = piece_more v before p more size last is in
    let part : Taken = compare_all v one rest own (index + 1) (at + size) (drop size p) in (
      on.0,
      compared_front index own last part (compare_all v other rest own (index + 1) (at + size) (drop size (p ++ more)))
          (subst (λ (l : List ℕ). AddsFront part (compare_all v other rest own (index + 1) (at + size) l)) (sym (drop-append-le size p more on.1))
          (compare_front v one other more so rest own (index + 1) (at + size) (drop size p))),
    ))

-- with the checkpoint at the front
begin_front : (d : Directory) (size : ℕ) (fed_seal p more : List ℕ) → d.limit < 256 ^ 4 → checkpoint_piece written d.limit (first_seal written d.mark) p ≡ Sealed size fed_seal
    → checkpoint_piece written d.limit (first_seal written d.mark) (p ++ more) ≡ Sealed size fed_seal → size ≤ length p
    → AddsFront (begin_with written d (first_seal written d.mark) size p (need_in p)) (begin_with written d (first_seal written d.mark) size (p ++ more) (need_in (p ++ more)))
begin_front d size fed_seal p more limit here there low =
    by_test (admits_checkpoint written d p (need_in p) && nat_eq (length (checkpoint_text (need_in p)) + seal_size written) size) refl
  where
    last : List ℕ
    last = first_seal written d.mark

    n : Need
    n = need_in p

    all : Taken
    all = begin_with written d last size (p ++ more) (need_in (p ++ more))

    by_test : (b : Bool) → (admits_checkpoint written d p n && nat_eq (length (checkpoint_text n) + seal_size written) size) ≡ b
        → AddsFront (cond b (behind_it d p (seal written last (checkpoint_text n)) (compacted_bytes written n - 1) size n) (stopped (Breaks 40))) all
    by_test false e = AddsNothing refl refl
    by_test true e =
        let cp = checkpoint_there d p p [] size fed_seal limit (sym (append-nil p)) low here n refl e in
        let whole = begins_so d (p ++ more) p more size fed_seal limit refl low there n cp in
        let fed_last : List ℕ = seal written last (checkpoint_text n) in
        let gate : ℕ = compacted_bytes written n - 1 in
        let long : length (drop size p) + length more ≤ length (p ++ more) = omega (arith, length-drop size p, length-append p more) in
        let front = add_front d (length p) (length (p ++ more)) fed_last (begun n) gate (40 + size) (drop size p) more long in
        AddsPart front.0 (sym (ap (λ (t : Taken). t.begins) whole))
        (ap (λ (t : Taken). t.records) whole ∙ ap (λ (l : List ℕ). (add_all written d (length (p ++ more)) fed_last (begun n) gate (40 + size) l).records) (drop-append-le size p more low) ∙ front.1)

-- where the journal begins with the checkpoint
begun_front : (d : Directory) (p more : List ℕ) → d.limit < 256 ^ 4 → AddsFront (begun_taken d p) (begun_taken d (p ++ more))
begun_front d p more limit =
    let last : List ℕ = first_seal written d.mark in
    by_piece_front 40 (checkpoint_piece written d.limit last p) (checkpoint_piece written d.limit last (p ++ more))
    (λ size fed. begin_with written d last size p (need_in p)) (λ size fed. begin_with written d last size (p ++ more) (need_in (p ++ more)))
    (λ size fed is.
    let on = checkpoint_more written d.limit last p more size fed is in
    (on.0, begin_front d size fed p more limit is on.0 on.1))

abbrev pub further_by : Directory → State → Option Need → Bool
further_by d s o = elim o as (λ _. Bool) [ None ↦ false | Some n ↦ not (is_behind n (need d s)) ]

-- where record 0 is another one
other_front : (d : Directory) (s : State) (end : End) (p more : List ℕ) → d.limit < 256 ^ 4
    → AddsFront (or_anew d s (begun_taken d p) (stopped end)) (or_anew d s (begun_taken d (p ++ more)) (stopped end))
other_front d s end p more limit = by_test (is_other_first end && is_further d s one) refl (begun_front d p more limit)
  where
    one : Taken
    one = begun_taken d p

    all : Taken
    all = begun_taken d (p ++ more)

    by_test : (b : Bool) → (is_other_first end && is_further d s one) ≡ b → AddsFront one all
        → AddsFront (cond b one (stopped end)) (cond (is_other_first end && is_further d s all) all (stopped end))
    by_test false e front = AddsNothing refl refl
    by_test true e (AddsNothing none nothing) =
        let further : is_further d s one ≡ true = (and_parts (is_other_first end) (is_further d s one) e).1 in
        let both : false ≡ true = sym (ap (further_by d s) none) ∙ further in absurd (cc both)
    by_test true e (AddsPart rest begins is) =
        let there : (is_other_first end && is_further d s all) ≡ true = ap (λ (o : Option Need). is_other_first end && further_by d s o) (sym begins) ∙ e in
        subst (λ (b : Bool). AddsFront one (cond b all (stopped end))) (sym there) (AddsPart rest begins is)

-- a further record that is another one isn't record 0
parts_later : (index : ℕ) (own fed : List ℕ) → 1 ≤ index → is_other_first (Parts index own fed) ≡ false
parts_later zero own fed low = absurd (omega (arith, low))
parts_later (suc index) own fed low = refl

later_ends : (v : Version) (behind : ℕ → List ℕ → Taken) → ((at : ℕ) (l : List ℕ) → is_other_first (behind at l).end ≡ false) → (own : List (List ℕ)) (before : List ℕ) (index at : ℕ) (p : List ℕ) → 1 ≤ index
    → is_other_first (compare_all v behind own before index at p).end ≡ false
later_ends v behind so [] before index at p low = so at p
later_ends v behind so (own ∷ more) before index at p low =
    by_found (record_piece v before p) (λ size. later_ends v behind so more own (index + 1) (at + size) (drop size p) (omega (arith, low)))
  where
    on : ℕ → Taken
    on size = compare_all v behind more own (index + 1) (at + size) (drop size p)

    by_same : (size : ℕ) (fed : List ℕ) (b : Bool) → is_other_first (on size).end ≡ false → is_other_first (cond b (on size) (stopped (Parts index own fed))).end ≡ false
    by_same size fed true later = later
    by_same size fed false later = parts_later index own fed low

    by_found : (x : Piece) → ((size : ℕ) → is_other_first (on size).end ≡ false) → is_other_first (by_piece at x (λ size fed. compared index own fed (on size))).end ≡ false
    by_found Cut later = refl
    by_found Broken later = refl
    by_found (Sealed size fed) later = by_same size fed (pointwise nat_eq own fed) (later size)

abbrev pub records_by : Directory → State → ℕ → List ℕ → List ℕ → Bool → Taken
records_by d s gate last bytes b =
    cond b (by_piece 40 (checkpoint_piece written d.limit last bytes) (λ size fed. begin_with written d last size bytes (need_in bytes)))
    (add_all written d (length bytes) last s gate 40 bytes)

records_front : (d : Directory) (s : State) (gate : ℕ) (last : List ℕ) (own : List (List ℕ)) (p more : List ℕ) → d.limit < 256 ^ 4 → (own ≡ [] → last ≡ first_seal written d.mark)
    → AddsFront (take_records written d s gate last own p) (take_records written d s gate last own (p ++ more))
records_front d s gate last [] [] more limit first = AddsNothing refl refl
records_front d s gate last [] (x ∷ p) more limit first = by_letter (is_checkpoint_fed (x ∷ p)) refl
  where
    bytes : List ℕ
    bytes = x ∷ p

    by_letter : (b : Bool) → is_checkpoint_fed (x ∷ p) ≡ b → AddsFront (records_by d s gate last (x ∷ p) b) (take_records written d s gate last [] ((x ∷ p) ++ more))
    by_letter false letter =
        subst (λ (t : Taken). AddsFront (add_all written d (length bytes) last s gate 40 bytes) t) (sym (ap (records_by d s gate last (bytes ++ more)) letter))
        (add_adds d (length bytes) (length (bytes ++ more)) last s gate 40 bytes more (omega (arith, length-append bytes more)))
    by_letter true letter =
        subst (λ (t : Taken). AddsFront (records_by d s gate last bytes true) t) (sym (ap (records_by d s gate last (bytes ++ more)) letter))
        (subst (λ (l : List ℕ). AddsFront (begin_first written d l bytes) (begin_first written d l (bytes ++ more))) (sym (first refl)) (begun_front d bytes more limit))
records_front d s gate last (own ∷ rest) p more limit first = by_found (first_piece written d.limit before p) refl
  where
    before : List ℕ
    before = first_seal written d.mark

    behind : ℕ → List ℕ → Taken
    behind at left = add_all written d (length left) last s gate at left

    so : (at : ℕ) (l : List ℕ) → AddsFront (behind at l) (behind at (l ++ more))
    so at l = add_adds d (length l) (length (l ++ more)) last s gate at l more (omega (arith, length-append l more))

    on : ℕ → List ℕ → Taken
    on size l = compare_all written behind rest own 1 (40 + size) (drop size l)

    first_compared : List ℕ → Piece → Taken
    first_compared l x = by_piece 40 x (λ size fed. compared 0 own fed (on size l))

    stays_so : (size : ℕ) (l : List ℕ) → or_anew d s (begun_taken d l) (on size l) ≡ on size l
    stays_so size l =
        stays d s (begun_taken d l) (on size l)
        (later_ends written behind (λ at k. add_ends d (length k) last s gate at k) rest own 1 (40 + size) (drop size l) (omega arith))

    by_same : (size : ℕ) (fed : List ℕ) (b : Bool) → size ≤ length p
        → AddsFront (or_anew d s (begun_taken d p) (cond b (on size p) (stopped (Parts 0 own fed)))) (or_anew d s (begun_taken d (p ++ more)) (cond b (on size (p ++ more)) (stopped (Parts 0 own fed))))
    by_same size fed false low = other_front d s (Parts 0 own fed) p more limit
    by_same size fed true low =
        let part : Taken = on size p in
        let front : AddsFront part (on size (p ++ more)) =
        subst (λ (l : List ℕ). AddsFront part (compare_all written behind rest own 1 (40 + size) l)) (sym (drop-append-le size p more low))
        (compare_front written behind behind more so rest own 1 (40 + size) (drop size p)) in
        subst (λ (t : Taken). AddsFront t (or_anew d s (begun_taken d (p ++ more)) (on size (p ++ more)))) (sym (stays_so size p))
        (subst (λ (t : Taken). AddsFront part t) (sym (stays_so size (p ++ more))) front)

    by_found : (x : Piece) → first_piece written d.limit before p ≡ x
        → AddsFront (or_anew d s (begun_taken d p) (first_compared p x)) (or_anew d s (begun_taken d (p ++ more)) (first_compared (p ++ more) (first_piece written d.limit before (p ++ more))))
    by_found Cut is = AddsNothing refl refl
    by_found Broken is = AddsNothing refl refl
    by_found (Sealed size fed) is =
        let on_more = first_more written d.limit before p more size fed is in
        subst (λ (x : Piece). AddsFront (or_anew d s (begun_taken d p) (first_compared p (Sealed size fed))) (or_anew d s (begun_taken d (p ++ more)) (first_compared (p ++ more) x))) (sym on_more.0)
        (by_same size fed (pointwise nat_eq own fed) on_more.1)

-- behind the header
taken_front : (d : Directory) (s : State) (gate : ℕ) (last : List ℕ) (own : List (List ℕ)) (fed more : List ℕ) → length d.mark ≡ 32 → d.limit < 256 ^ 4 → (own ≡ [] → last ≡ first_seal written d.mark)
    → AddsFront (taken written d s gate last own fed) (taken written d s gate last own (fed ++ more))
taken_front d s gate last own fed more size limit first = by_same (agreeing header fed == 40) refl
  where
    header : List ℕ
    header = magic written ++ d.mark

    part : Taken
    part = take_records written d s gate last own (drop 40 fed)

    by_end : (b : Bool) (at : ℕ) (t : Taken) → AddsFront (cond b (stopped Ends) (stopped (Breaks at))) t
    by_end true at t = AddsNothing refl refl
    by_end false at t = AddsNothing refl refl

    is_forty : (n : ℕ) → (n == 40) ≡ true → n ≡ 40
    is_forty n e = grind (arith, nat_tests)

    by_same : (b : Bool) → (agreeing header fed == 40) ≡ b
        → AddsFront (cond b part (cond (nat_le (length fed) (agreeing header fed)) (stopped Ends) (stopped (Breaks (agreeing header fed))))) (taken written d s gate last own (fed ++ more))
    by_same false e = by_end (nat_le (length fed) (agreeing header fed)) (agreeing header fed) (taken written d s gate last own (fed ++ more))
    by_same true e =
        let at : agreeing header fed ≡ 40 = is_forty (agreeing header fed) e in
        let there : 40 ≤ length fed = omega (arith, at, agreeing-low header fed) in
        let front : InFeed = record { bytes = fed; is_all = false } in
        let low : length header ≤ 40 = omega (arith, size, magic_size written, length-append (magic written) d.mark) in
        let same : agreeing header (fed ++ more) ≡ agreeing header fed = all_agree header (fed ++ more) more front low (record { is = refl; all = λ e. absurd (cc e) }) (inr there) in
        let whole : taken written d s gate last own (fed ++ more) ≡ take_records written d s gate last own (drop 40 (fed ++ more)) =
        ap (λ (k : ℕ). cond (k == 40) (take_records written d s gate last own (drop 40 (fed ++ more))) (cond (nat_le (length (fed ++ more)) k) (stopped Ends) (stopped (Breaks k)))) (same ∙ at) in
        subst (λ (t : Taken). AddsFront part t) (sym (whole ∙ ap (take_records written d s gate last own) (drop-append-le 40 fed more there)))
        (records_front d s gate last own (drop 40 fed) more limit first)

-- a journal that has no records stands at its first gate, with the seal of its header
pub unread_there : (d : Directory) (files : Files) (read : State × ℕ × List ℕ) → files_read written d files ≡ Ok read → own_seals d (selected_bytes files) ≡ [] → read ≡ (empty d, 41, first_seal written d.mark)
unread_there d files read opened none = by_letter (is_checkpoint bytes) refl
  where
    bytes : List ℕ
    bytes = selected_bytes files

    file : ℕ
    file = selected files

    first : List ℕ
    first = first_seal written d.mark

    here : State × ℕ × List ℕ
    here = (empty d, 41, first)

    by_entry : (n : ℕ) (e : Result (Option Record) OpenFault) → entry_at written first file 40 (drop 40 bytes) ≡ e → records_at written d (suc n) file first (empty d) 40 (drop 40 bytes) ≡ Ok read
        → seals_at written (suc n) first (drop 40 bytes) ≡ [] → read ≡ here
    by_entry n (Err fault) is reads none = absurd (let one : Read = Err fault in let e : one ≡ Ok read = sym (reads_fault written d n file first (empty d) 40 (drop 40 bytes) fault is) ∙ reads in cc e)
    by_entry n (Ok None) is reads none = let e : Ok read ≡ Ok here = sym reads ∙ reads_end_there written d n file first (empty d) 40 (drop 40 bytes) is in cc e
    by_entry n (Ok (Some r)) is reads none =
        absurd (let e : seal written first (record_text r) ∷ seals_at written n (seal written first (record_text r)) (drop (record_size written r) (drop 40 bytes)) ≡ [] = sym (seals_one written n file 40 first (drop 40 bytes) r is) ∙ none in cc e)

    by_steps : (n : ℕ) → records_at written d n file first (empty d) 40 (drop 40 bytes) ≡ Ok read → seals_at written n first (drop 40 bytes) ≡ [] → read ≡ here
    by_steps zero reads none = absurd (cc reads)
    by_steps (suc n) reads none = by_entry n (entry_at written first file 40 (drop 40 bytes)) refl reads none

    by_letter : (b : Bool) → is_checkpoint bytes ≡ b → read ≡ here
    by_letter false plain =
        by_steps (length bytes) (sym (opens_behind written d file bytes false (sound_header written d file bytes read opened) plain) ∙ opened)
        (sym (ap (seals_behind written first bytes) plain) ∙ none)
    by_letter true packed = absurd (let e : checkpoint_seals written first bytes (need_in (drop 41 bytes)) ≡ [] = sym (ap (seals_behind written first bytes) packed) ∙ none in cc e)

pub front_adds : (d : Directory) (files : Files) (fed more : List ℕ) (part whole : Taken) → length d.mark ≡ 32 → d.limit < 256 ^ 4 → comes_to d files fed ≡ Ok part → comes_to d files (fed ++ more) ≡ Ok whole
    → AddsFront part whole
front_adds d files fed more part whole size limit here there = by_read (files_read written d files) refl here there
  where
    by_read : (r : Read) → files_read written d files ≡ r → come_by d files fed r ≡ Ok part → come_by d files (fed ++ more) r ≡ Ok whole → AddsFront part whole
    by_read (Err fault) opened here there = absurd (cc here)
    by_read (Ok read) opened here there =
        let own : List (List ℕ) = own_seals d (selected_bytes files) in
        let one : taken written d read.0 (read.1 - 1) read.2 own fed ≡ part = cc here in
        let other : taken written d read.0 (read.1 - 1) read.2 own (fed ++ more) ≡ whole = cc there in
        let front = taken_front d read.0 (read.1 - 1) read.2 own fed more size limit (λ none. ap (λ (x : State × ℕ × List ℕ). x.2) (unread_there d files read opened none)) in
        subst (λ (t : Taken). AddsFront part t) other (subst (λ (t : Taken). AddsFront t (taken written d read.0 (read.1 - 1) read.2 own (fed ++ more))) one front)
