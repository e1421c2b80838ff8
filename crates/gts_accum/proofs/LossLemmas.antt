-- The bad place that is computed of a stream is the one of the grammar.
use Rattle.gts_accum.proofs.Cited.{◌≡◌, ℕ, ◌+◌, ◌-◌, ◌<◌, ◌≤◌, min, Bool, true, false, List, [], ◌∷◌, ◌++◌, length, take, drop, Option, Some, None, inl, inr, refl, sym, ap, subst, ◌∙◌, append_assoc, arith, is_none, flat_map, option_map, AllByRecursion, FrameField, IsBadStream, IsPiece, IsStream, IsStreamFront, IsStreamWithin, LONGEST_STREAM, Piece, bad_in_stream, find, held_in, loss_in, open_part, piece_text, range_with_len, signs_in, stream_seen, cases_lt, lt-ltb, le-ltb, append-nil, length-take, take_all, take-take, take-append-drop, shows-computed, shows-one, open-front, front-open, reads-pieces, common_steps}
use Rattle.gts_accum.proofs.StreamLemmas.{loss-found, bad_by}
use Rattle.gts_accum.proofs.FileLemmas.{first_is}
use Rattle.gts_accum.proofs.PlaceLemmas.{one-number}

-- ---- streams and their fronts, by what they leave open

stream-open : (bytes : List ℕ) → IsStream bytes → held_in bytes ≡ Some []
stream-open bytes (pieces, each, text) =
    ap held_in (text ∙ sym (append-nil (flat_map piece_text pieces))) ∙ (reads-pieces pieces [] each).1

open-stream : (bytes : List ℕ) → held_in bytes ≡ Some [] → IsStream bytes
open-stream bytes is =
    let s = shows-computed bytes in go s.rest s.field s.pieces s.each s.text (sym (shows-one bytes (signs_in bytes) s).1 ∙ is)
  where
    go : (rest : List ℕ) (field : Option FrameField) (pieces : List Piece) → AllByRecursion IsPiece pieces → bytes ≡ flat_map piece_text pieces ++ rest
        → open_part rest field ≡ Some [] → IsStream bytes
    go rest None pieces each text e =
        let none : rest ≡ [] = cc in
        (pieces, each, text ∙ ap (λ (l : List ℕ). flat_map piece_text pieces ++ l) none ∙ append-nil (flat_map piece_text pieces))
    go rest (Some field) pieces each text e = absurd (cc)

kept : (bytes : List ℕ) → is_none (held_in bytes) ≡ false → IsStreamFront bytes
kept bytes some = grind (arith, common_steps, open-front)

lost : (bytes : List ℕ) → is_none (held_in bytes) ≡ true → IsStreamFront bytes → ⊥
lost bytes none front = grind (arith, common_steps, front-open)

front-of : (n : ℕ) (bytes : List ℕ) → IsStreamFront bytes → IsStreamFront (take n bytes)
front-of n bytes (stream, more, is, text) =
    let front : stream ≡ take n bytes ++ (drop n bytes ++ more) =
    text ∙ ap (λ (l : List ℕ). l ++ more) (sym (take-append-drop n bytes)) ∙ append_assoc (take n bytes) (drop n bytes) more in
    (stream, drop n bytes ++ more, is, front)

-- ---- the first byte at which nothing is kept

mapped : (r : Option ℕ) (at : ℕ) → option_map (λ n. n - 1) r ≡ Some at → (k : ℕ) × (r ≡ Some k) × (k - 1 ≡ at)
mapped None at e = absurd (cc)
mapped (Some k) at e = (k, refl, (cc))

-- ---- the bytes that are looked at

module _ (stream : List ℕ) where
  few : length (stream_seen stream) ≡ min LONGEST_STREAM (length stream)
  few = omega (arith, length-take (min LONGEST_STREAM (length stream)) stream)

  all_seen : length stream ≤ LONGEST_STREAM → stream_seen stream ≡ stream
  all_seen short = take_all (min LONGEST_STREAM (length stream)) stream (omega (arith, short))

  front_seen : (n : ℕ) → n ≤ length (stream_seen stream) → take n (stream_seen stream) ≡ take n stream
  front_seen n inside = take-take n (min LONGEST_STREAM (length stream)) stream (omega (arith, few, inside))

  -- synchronisation is lost
  lost_at : (at : ℕ) → held_in (stream_seen stream) ≡ None → loss_in (stream_seen stream) ≡ Some at → IsBadStream LONGEST_STREAM stream at
  lost_at at none some =
      let p : ℕ → Bool = λ n. is_none (held_in (take n (stream_seen stream))) in
      let m = mapped (find p (range_with_len 1 (length (stream_seen stream)))) at some in
      let k : ℕ = m.0 in
      let is = first_is p 1 (length (stream_seen stream)) k m.1 in
      let next : at + 1 ≡ k = omega (arith, m.2, is.low) in
      let before : is_none (held_in (take at (stream_seen stream))) ≡ false = (elim (cases_lt 0 at) [
        | inl some ↦ is.first at (omega (arith, some)) (omega (arith, next))
        | inr none ↦ ap (λ (n : ℕ). is_none (held_in (take n (stream_seen stream)))) (let z : at ≡ 0 = omega (arith, none) in z)
      ]) in
      record {
        within = omega (arith, few, next, is.high);
        allowed = omega (arith, few, next, is.high);
        before = subst IsStreamFront (front_seen at (omega (arith, next, is.high))) (kept (take at (stream_seen stream)) before);
        no_stream = λ within.
            let whole : held_in (stream_seen stream) ≡ Some [] = ap held_in (all_seen within.short) ∙ stream-open stream within.each in absurd (cc);
        byte = λ _ _ front.
            let same : take (at + 1) stream ≡ take k (stream_seen stream) =
            ap (λ (n : ℕ). take n stream) next ∙ sym (front_seen k (omega (arith, is.high))) in
            lost (take k (stream_seen stream)) is.passes (subst IsStreamFront same front);
      }

  whole_seen : take (length (stream_seen stream)) stream ≡ stream_seen stream
  whole_seen = ap (λ (n : ℕ). take n stream) few

  -- it ends, or goes on past the greatest length, behind all that was looked at
  ends_at : (at : ℕ) (held : List ℕ) → at ≡ length (stream_seen stream) → held_in (stream_seen stream) ≡ Some held
      → (IsStreamWithin LONGEST_STREAM stream → ⊥) → IsBadStream LONGEST_STREAM stream at
  ends_at at held is some none = record {
    within = omega (arith, few, is);
    allowed = omega (arith, few, is);
    before = subst IsStreamFront (sym (ap (λ (n : ℕ). take n stream) is ∙ whole_seen)) (kept (stream_seen stream) (ap is_none some));
    no_stream = none;
    byte = λ inside allowed front. absurd (omega (arith, few, is, inside, allowed));
  }

-- what a bad place says, and what it says that there is none
abbrev Claim : List ℕ → Option ℕ → Type 0
Claim stream None = IsStreamWithin LONGEST_STREAM stream
Claim stream (Some at) = IsBadStream LONGEST_STREAM stream at

claim : (stream : List ℕ) → Claim stream (bad_in_stream stream)
claim stream = by (held_in (stream_seen stream)) refl
  where
    lost_by : (place : Option ℕ) → held_in (stream_seen stream) ≡ None → loss_in (stream_seen stream) ≡ place → Claim stream place
    lost_by None none no_place = absurd (loss-found (stream_seen stream) none no_place)
    lost_by (Some at) none some = lost_at stream at none some

    by : (held : Option (List ℕ)) → held_in (stream_seen stream) ≡ held → Claim stream (bad_by stream held)
    by None none = lost_by (loss_in (stream_seen stream)) none refl
    by (Some []) is = elim (cases_lt LONGEST_STREAM (length stream)) [
      | inl past ↦
          rw (lt-ltb LONGEST_STREAM (length stream) past)
          (ends_at stream LONGEST_STREAM [] (omega (arith, few stream, past)) is (λ within. omega (arith, within.short, past)))
      | inr over ↦
          rw (le-ltb LONGEST_STREAM (length stream) over)
          (record { each = open-stream stream (ap held_in (sym (all_seen stream over)) ∙ is); short = over })
    ]
    by (Some (b ∷ held)) is =
        ends_at stream (length (stream_seen stream)) (b ∷ held) refl is
        (λ within.
        let whole : held_in (stream_seen stream) ≡ Some [] = ap held_in (all_seen stream within.short) ∙ stream-open stream within.each in absurd (cc))

-- ---- both ways

pub good-stream : (stream : List ℕ) → bad_in_stream stream ≡ None → IsStreamWithin LONGEST_STREAM stream
good-stream stream none = subst (Claim stream) none (claim stream)

pub bad-stream : (stream : List ℕ) (at : ℕ) → bad_in_stream stream ≡ Some at → IsBadStream LONGEST_STREAM stream at
bad-stream stream at some = subst (Claim stream) some (claim stream)

pub stream-good : (stream : List ℕ) → IsStreamWithin LONGEST_STREAM stream → bad_in_stream stream ≡ None
stream-good stream is = grind (arith, common_steps, claim)

-- a place is the only one
no-later : (stream : List ℕ) (a b : ℕ) → IsBadStream LONGEST_STREAM stream a → IsBadStream LONGEST_STREAM stream b → a < b → ⊥
no-later stream a b one other less =
    let front : take (a + 1) (take b stream) ≡ take (a + 1) stream = take-take (a + 1) b stream (omega (arith, less)) in
    one.byte (omega (arith, less, other.within)) (omega (arith, less, other.allowed)) (subst IsStreamFront front (front-of (a + 1) (take b stream) other.before))

pub stream-bad : (stream : List ℕ) (at : ℕ) → IsBadStream LONGEST_STREAM stream at → bad_in_stream stream ≡ Some at
stream-bad stream at is = go (bad_in_stream stream) (claim stream)
  where
    go : (place : Option ℕ) → Claim stream place → place ≡ Some at
    go None good = absurd (is.no_stream good)
    go (Some place) bad = ap (λ (n : ℕ). Some n) (one-number (IsBadStream LONGEST_STREAM stream) (no-later stream) place at bad is)
