-- The next record of a feed, by the bytes that were read ahead.
use Rattle.gts_standby.proofs.Cited.{◌≡◌, ◌⊎◌, ⊎_elim, inl, inr, ◌||◌, ℕ, ◌+◌, ◌-◌, ◌≤◌, Bool, true, false, cond, List, [], ◌∷◌, ◌++◌, length, replicate, Option, Some, None, refl, sym, ap, subst, ◌∙◌, arith, length-append, nat_lt, nat_le, is_some, append_assoc, le-ltb, nat_tests, Accept, An, Bi, Breaks, Broken, Cut, Done, Drew, Ends, Feed, FollowEnd, Fx, HasRead, InFeed, IsUnsealed, LONGEST, LONGEST_BODY, Piece, Record, Sealed, StopsAs, Taken, Version, by_piece, is_short, may_be_cut, may_begin, record_piece, record_size, record_text, rest_of, seal, seal_size, sealed, sealed_at, stopped, unsealed, record_at, record_at-found, record_at-stands, found_fits, length-sealed, sealed_at-found, sealed_at-stands, sealed_fits, few_bytes, common_steps, has_record, tells_next}
use Rattle.gts_standby.proofs.HeaderLemmas.{no_more}

-- ---- records at the front of bytes and of more

-- the longest record
pub text_length : (r : Record) → is_short r ≡ true → length (record_text r) + 32 ≤ LONGEST
text_length (Accept from An position body) short = let few : nat_le (length body) LONGEST_BODY ≡ true = short in grind (arith, nat_tests)
text_length (Accept from Bi position body) short = let few : nat_le (length body) LONGEST_BODY ≡ true = short in grind (arith, nat_tests)
text_length (Accept from Fx position body) short = let few : nat_le (length body) LONGEST_BODY ≡ true = short in grind (arith, nat_tests)
text_length (Drew circuit position index) short = omega arith

-- a text at the front of bytes and of more stands at the front of the bytes, where they are as many
split_front : (p more t rest : List ℕ) → p ++ more ≡ t ++ rest → length t ≤ length p → (back : List ℕ) × (p ≡ t ++ back)
split_front p more [] rest e low = (p, refl)
split_front [] more (x ∷ t) rest e low = absurd (omega (arith, low))
split_front (y ∷ p) more (x ∷ t) rest e low =
    let first : y ≡ x = cc e in
    let others : p ++ more ≡ t ++ rest = cc e in
    let back = split_front p more t rest others (omega (arith, low)) in
    (back.0, ap (λ (z : ℕ). z ∷ p) first ∙ ap (λ (l : List ℕ). x ∷ l) back.1)

record_front : (p more : List ℕ) (q : Record) → record_at (p ++ more) ≡ Some q → length (record_text q) ≤ length p → record_at p ≡ Some q
record_front p more q found low =
    let stands = (record_at-stands (p ++ more) q found).0 in
    record_at-found q p (found_fits (p ++ more) q found) (split_front p more (record_text q) stands.0 stands.1 low)

sealed_front : (v : Version) (before p more : List ℕ) (q : Record) → sealed_at v before (p ++ more) ≡ Some q → length (sealed v before (record_text q)) ≤ length p → sealed_at v before p ≡ Some q
sealed_front v before p more q found low =
    let stands = (sealed_at-stands v before (p ++ more) q found).0 in
    sealed_at-found v before q p (sealed_fits v before (p ++ more) q found) (split_front p more (sealed v before (record_text q)) stands.0 stands.1 low)

pub sealed_more : (v : Version) (before p more : List ℕ) (r : Record) → sealed_at v before p ≡ Some r → sealed_at v before (p ++ more) ≡ Some r
sealed_more v before p more r found =
    let stands = (sealed_at-stands v before p r found).0 in
    sealed_at-found v before r (p ++ more) (sealed_fits v before p r found)
    (stands.0 ++ more, ap (λ (l : List ℕ). l ++ more) stands.1 ∙ append_assoc (sealed v before (record_text r)) stands.0 more)

-- ---- what was read ahead

abbrev pub IsEnough : Version → InFeed → Type 0
IsEnough v ahead = tells_next v ahead ≡ true

either : (a b : Bool) → (a || b) ≡ true → (a ≡ true) ⊎ (b ≡ true)
either true b is = inl refl
either false b is = inr is

abbrev has_by : Version → List ℕ → Option Record → Bool
has_by v bytes o = elim o as (λ _. Bool) [ None ↦ false | Some r ↦ nat_le (length (record_text r) + seal_size v) (length bytes) ]

-- a record that is whole, with the bytes of its seal
record HasWhole (v : Version) (bytes : List ℕ) : Type 0 where
  r : Record
  found : record_at bytes ≡ Some r
  long : length (record_text r) + seal_size v ≤ length bytes

whole_there : (v : Version) (bytes : List ℕ) → has_record v bytes ≡ true → HasWhole v bytes
whole_there v bytes is = go (record_at bytes) refl
  where
    go : (o : Option Record) → record_at bytes ≡ o → HasWhole v bytes
    go None none = absurd (let e : false ≡ true = sym (ap (has_by v bytes) none) ∙ is in cc e)
    go (Some r) found =
        let e : nat_le (length (record_text r) + seal_size v) (length bytes) ≡ true = sym (ap (has_by v bytes) found) ∙ is in record { r = r; found = found; long = grind (arith, nat_tests) }

-- there is no more, or as many as the longest has, or a whole record stands there
enough_cases : (v : Version) (ahead : InFeed) → IsEnough v ahead → (ahead.is_all ≡ true) ⊎ ((LONGEST ≤ length ahead.bytes) ⊎ HasWhole v ahead.bytes)
enough_cases v ahead enough = ⊎_elim
    (λ (all : ahead.is_all ≡ true). inl all)
    (λ (other : (nat_le LONGEST (length ahead.bytes) || has_record v ahead.bytes) ≡ true). inr (⊎_elim
    (λ (long : nat_le LONGEST (length ahead.bytes) ≡ true). inl (grind (arith, nat_tests)))
    (λ (whole : has_record v ahead.bytes ≡ true). inr (whole_there v ahead.bytes whole))
    (either (nat_le LONGEST (length ahead.bytes)) (has_record v ahead.bytes) other)))
    (either ahead.is_all (nat_le LONGEST (length ahead.bytes) || has_record v ahead.bytes) enough)

-- it is found in more bytes too
whole_more : (v : Version) (p more : List ℕ) (w : HasWhole v p) → record_at (p ++ more) ≡ Some w.r
whole_more v p more w =
    let stands = (record_at-stands p w.r w.found).0 in
    record_at-found w.r (p ++ more) (found_fits p w.r w.found)
    (stands.0 ++ more, ap (λ (l : List ℕ). l ++ more) stands.1 ∙ append_assoc (record_text w.r) stands.0 more)

-- so the record that is sealed there is this one
whole_sealed : (v : Version) (before p more : List ℕ) (q : Record) → HasWhole v p → sealed_at v before (p ++ more) ≡ Some q → sealed_at v before p ≡ Some q
whole_sealed v before p more q w found =
    let stands = (sealed_at-stands v before (p ++ more) q found).0 in
    let text : List ℕ = record_text q in
    let there : record_at (p ++ more) ≡ Some q = record_at-found q (p ++ more) (sealed_fits v before (p ++ more) q found)
    (seal v before text ++ stands.0, stands.1 ∙ append_assoc text (seal v before text) stands.0) in
    let both : Some w.r ≡ Some q = sym (whole_more v p more w) ∙ there in
    let same : w.r ≡ q = cc both in
    sealed_front v before p more q found (omega (arith, length-sealed v before text, w.long, ap (λ (x : Record). length (record_text x)) same))

pub sealed_read : (v : Version) (before fed left : List ℕ) (ahead : InFeed) (r : Record) → HasRead fed ahead left → sealed_at v before ahead.bytes ≡ Some r → sealed_at v before fed ≡ Some r
sealed_read v before fed left ahead r read found = ap (sealed_at v before) read.is ∙ sealed_more v before ahead.bytes left r found

none_among : (v : Version) (before fed left : List ℕ) (ahead : InFeed) → HasRead fed ahead left → IsEnough v ahead → sealed_at v before ahead.bytes ≡ None → (o : Option Record) → o ≡ sealed_at v before fed → o ≡ None
none_among v before fed left ahead read enough none None is = refl
none_among v before fed left ahead read enough none (Some q) is =
    let found : sealed_at v before (ahead.bytes ++ left) ≡ Some q = ap (sealed_at v before) (sym read.is) ∙ sym is in
    let size : length (sealed v before (record_text q)) ≤ LONGEST =
    omega (arith, length-sealed v before (record_text q), few_bytes v, text_length q (sealed_at-stands v before (ahead.bytes ++ left) q found).1) in
    let there : sealed_at v before ahead.bytes ≡ Some q = ⊎_elim
    (λ (all : ahead.is_all ≡ true). ap (sealed_at v before) (sym (no_more fed left ahead read all)) ∙ sym is)
    (λ (other : (LONGEST ≤ length ahead.bytes) ⊎ HasWhole v ahead.bytes). ⊎_elim
    (λ (long : LONGEST ≤ length ahead.bytes). sealed_front v before ahead.bytes left q found (omega (arith, size, long)))
    (λ (whole : HasWhole v ahead.bytes). whole_sealed v before ahead.bytes left q whole found) other)
    (enough_cases v ahead enough) in
    let both : Some q ≡ None = sym there ∙ none in absurd (cc both)

pub none_read : (v : Version) (before fed left : List ℕ) (ahead : InFeed) → HasRead fed ahead left → IsEnough v ahead → sealed_at v before ahead.bytes ≡ None → sealed_at v before fed ≡ None
none_read v before fed left ahead read enough none = none_among v before fed left ahead read enough none (sealed_at v before fed) refl

-- ---- a record that is cut is short

-- a record that is found in more bytes is found in these, if they are as many as it has
pub same_found : (p more : List ℕ) → ((q : Record) → record_at (p ++ more) ≡ Some q → length (record_text q) ≤ length p) → is_some (record_at (p ++ more)) ≡ is_some (record_at p)
same_found p more low = go (record_at p) refl (record_at (p ++ more)) refl
  where
    go : (o : Option Record) → record_at p ≡ o → (u : Option Record) → record_at (p ++ more) ≡ u → is_some u ≡ is_some o
    go None none None is = refl
    go (Some r) found (Some q) is = refl
    go None none (Some q) is = absurd (let e : Some q ≡ None = sym (record_front p more q is (low q is)) ∙ none in cc e)
    go (Some r) found None none =
        let stands = (record_at-stands p r found).0 in
        let there : record_at (p ++ more) ≡ Some r =
        record_at-found r (p ++ more) (found_fits p r found) (stands.0 ++ more, ap (λ (l : List ℕ). l ++ more) stands.1 ∙ append_assoc (record_text r) stands.0 more) in
        absurd (let e : Some r ≡ None = sym there ∙ none in cc e)

long_begins_none : (bytes : List ℕ) → LONGEST ≤ length bytes → record_at bytes ≡ None → may_begin bytes ≡ false
long_begins_none [] long none = absurd (let some : 1 ≤ LONGEST = omega arith in omega (arith, long, some))
long_begins_none (byte ∷ bytes) long none =
    let all : List ℕ = byte ∷ bytes in
    let more : List ℕ = rest_of all ++ replicate LONGEST_BODY 0 in
    ap (λ (l : List ℕ). is_some (record_at l)) (append_assoc all (rest_of all) (replicate LONGEST_BODY 0))
    ∙ same_found all more (λ q found. omega (arith, long, text_length q (record_at-stands (all ++ more) q found).1))
    ∙ ap (λ (o : Option Record). is_some o) none

abbrev cut_by : Version → List ℕ → Option Record → Bool
cut_by v bytes o = elim o as (λ _. Bool) [ None ↦ may_begin bytes | Some r ↦ nat_lt (length bytes) (length (record_text r) + seal_size v) ]

cut_none : (v : Version) (bytes : List ℕ) → LONGEST ≤ length bytes → (o : Option Record) → o ≡ record_at bytes → cut_by v bytes o ≡ false
cut_none v bytes long None is = long_begins_none bytes long (sym is)
cut_none v bytes long (Some r) is = grind (arith, common_steps, few_bytes, text_length, record_at-stands, le-ltb)

pub long_is_whole : (v : Version) (bytes : List ℕ) → LONGEST ≤ length bytes → may_be_cut v bytes ≡ false
long_is_whole v bytes long = cut_none v bytes long (record_at bytes) refl

-- ---- how a feed ends there

-- it isn't where a whole record stands
whole_uncut_there : (v : Version) (fed left : List ℕ) (ahead : InFeed) → HasRead fed ahead left → HasWhole v ahead.bytes → may_be_cut v fed ≡ false
whole_uncut_there v fed left ahead read w =
    let there : record_at fed ≡ Some w.r = ap record_at read.is ∙ whole_more v ahead.bytes left w in
    let long : length (record_text w.r) + seal_size v ≤ length fed = omega (arith, w.long, ap (λ (l : List ℕ). length l) read.is, length-append ahead.bytes left) in
    ap (cut_by v fed) there ∙ le-ltb (length fed) (length (record_text w.r) + seal_size v) long

-- the feed as a whole is cut there, or isn't, as the answer says
pub cut_fed : (v : Version) (fed left : List ℕ) (ahead : InFeed) → HasRead fed ahead left → IsEnough v ahead → (ahead.is_all ≡ true → may_be_cut v ahead.bytes ≡ false) → may_be_cut v fed ≡ false
cut_fed v fed left ahead read enough not_cut = ⊎_elim
    (λ (all : ahead.is_all ≡ true). ap (may_be_cut v) (no_more fed left ahead read all) ∙ not_cut all)
    (λ (other : (LONGEST ≤ length ahead.bytes) ⊎ HasWhole v ahead.bytes). ⊎_elim
    (λ (long : LONGEST ≤ length ahead.bytes). long_is_whole v fed (omega (arith, long, ap (λ (l : List ℕ). length l) read.is, length-append ahead.bytes left)))
    (λ (whole : HasWhole v ahead.bytes). whole_uncut_there v fed left ahead read whole) other)
    (enough_cases v ahead enough)

abbrev end_by : ℕ → Bool → Taken
end_by at b = cond b (stopped Ends) (stopped (Breaks at))

pub ends_there : (answer : FollowEnd) (v : Version) (fed left : List ℕ) (ahead : InFeed) (at : ℕ) → HasRead fed ahead left → IsEnough v ahead → IsUnsealed answer v ahead at
    → StopsAs answer (cond (may_be_cut v fed) (stopped Ends) (stopped (Breaks at))) left
ends_there Done v fed left ahead at read enough is = grind (arith, common_steps, no_more)
ends_there (Feed place) v fed left ahead at read enough is = record {
  end = Breaks at;
  is = ap (end_by at) (cut_fed v fed left ahead read enough is.1);
  ends = is.0;
  all = tt;
}
ends_there _ v fed left ahead at read enough is = absurd is

abbrev pub piece_by : Version → List ℕ → List ℕ → Option Record → Piece
piece_by v before fed o = elim o as (λ _. Piece) [ None ↦ unsealed v fed | Some r ↦ Sealed (record_size v r - 1) (seal v before (record_text r)) ]

-- a piece was found
pub found_piece : (v : Version) (before fed left : List ℕ) (ahead : InFeed) (r : Record) (size : ℕ) (last : List ℕ) → HasRead fed ahead left → sealed_at v before ahead.bytes ≡ Some r
    → size ≡ length (record_text r) + seal_size v → last ≡ seal v before (record_text r) → record_piece v before fed ≡ Sealed size last
found_piece v before fed left ahead r size last read found is seals =
    ap (piece_by v before fed) (sealed_read v before fed left ahead r read found)
    ∙ ap (λ (k : ℕ). Sealed k (seal v before (record_text r))) (let e : record_size v r - 1 ≡ size = omega (arith, is) in e)
    ∙ ap (λ (l : List ℕ). Sealed size l) (sym seals)

by_cut : (b : Bool) (at : ℕ) (next : ℕ → List ℕ → Taken) → by_piece at (cond b Cut Broken) next ≡ end_by at b
by_cut true at next = refl
by_cut false at next = refl

-- none was
pub no_piece : (answer : FollowEnd) (v : Version) (before fed left : List ℕ) (ahead : InFeed) (at : ℕ) → HasRead fed ahead left → IsEnough v ahead → sealed_at v before ahead.bytes ≡ None
    → IsUnsealed answer v ahead at → (next : ℕ → List ℕ → Taken) → StopsAs answer (by_piece at (record_piece v before fed) next) left
no_piece answer v before fed left ahead at read enough none is next =
    let same : by_piece at (record_piece v before fed) next ≡ end_by at (may_be_cut v fed) =
    ap (λ (o : Option Record). by_piece at (piece_by v before fed o) next) (none_read v before fed left ahead read enough none) ∙ by_cut (may_be_cut v fed) at next in
    subst (λ (t : Taken). StopsAs answer t left) (sym same) (ends_there answer v fed left ahead at read enough is)

-- what was found is there, and is short
pub found_fits_there : (v : Version) (before bytes : List ℕ) (r : Record) (size : ℕ) → sealed_at v before bytes ≡ Some r → size ≡ length (record_text r) + seal_size v → size ≤ length bytes
found_fits_there v before bytes r size found is =
    let stands = (sealed_at-stands v before bytes r found).0 in
    omega (arith, is, ap (λ (l : List ℕ). length l) stands.1, length-append (sealed v before (record_text r)) stands.0, length-sealed v before (record_text r))
