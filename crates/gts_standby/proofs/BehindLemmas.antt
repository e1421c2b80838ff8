-- What is behind a place ends the feed.
use Rattle.gts_standby.proofs.Cited.{◌≡◌, ℕ, zero, suc, ◌+◌, ◌-◌, Bool, true, false, ◌&&◌, nat_eq, nat_le, List, [], ◌∷◌, ◌++◌, length, drop, Option, Some, None, inl, inr, refl, sym, ap, subst, ◌∙◌, arith, append_assoc, ◌==◌, ◌⊎◌, EndsWith, HasFront, IsBehindFront, Need, Record, Version, behind_at, behind_place, checkpoint_text, compacted_bytes, feed_at, feed_behind, first_seal, found_since, held, is_checkpoint, need_in, pointwise, record_size, record_text, same_text, seal, sealed, where_so, and_parts, append-nil, one_back, common_steps}
use Rattle.gts_standby.specs.Cited.{record_at}
use Rattle.gts_standby.proofs.FeedLemmas.{feed_of_record, feed_of_gate}
use Rattle.gts_standby.proofs.SinceLemmas.{by_place}

-- a record behind an open gate is the next one of the feed
pub feed_on : (v : Version) (n : ℕ) (before bytes : List ℕ) (r : Record) → record_at v before bytes ≡ Some r
    → feed_at v (suc n) before bytes ≡ sealed v before (record_text r) ++ feed_at v n (seal v before (record_text r)) (drop (record_size v r) bytes)
feed_on v n before [] r is = absurd (let none : Option Record = None in let f : none ≡ Some r = is in cc f)
feed_on v n before (mark ∷ bytes) r is = grind (arith, common_steps, feed_of_gate, feed_of_record, one_back)

-- one record more in front
front_more : (v : Version) (before text whole last left : List ℕ) → IsBehindFront whole (seal v before text) last left → IsBehindFront (sealed v before text ++ whole) before last left
front_more v before text whole last left it = record {
  front = sealed v before text ++ it.front;
  is = ap (λ (l : List ℕ). sealed v before text ++ l) it.is ∙ sym (append_assoc (sealed v before text) it.front left);
  ends = inr (by_ends it.ends);
}
  where
    by_ends : ((it.front ≡ []) × (seal v before text ≡ last)) ⊎ EndsWith it.front last → EndsWith (sealed v before text ++ it.front) last
    by_ends (inl none) =
        (text, ap (λ (l : List ℕ). sealed v before text ++ l) none.0 ∙ append-nil (sealed v before text) ∙ ap (λ (l : List ℕ). text ++ l) none.1)
    by_ends (inr some) =
        (sealed v before text ++ some.0, ap (λ (l : List ℕ). sealed v before text ++ l) some.1 ∙ sym (append_assoc (sealed v before text) some.0 last))

-- one gate, where it is so of the gates behind it
front_step : (v : Version) (n : ℕ) (before : List ℕ) (gate : ℕ) (bytes : List ℕ) (place : ℕ) (last left : List ℕ)
    → ((b : List ℕ) (k : ℕ) (l : List ℕ) → behind_at v n b k l place last ≡ Some left → IsBehindFront (feed_at v n b l) b last left)
    → (b : Bool) → by_place v n before gate bytes place last b ≡ Some left → IsBehindFront (feed_at v (suc n) before bytes) before last left
front_step v n before gate bytes place last left next true is = by_here (gate == place && pointwise nat_eq before last) refl is
  where
    by_here : (c : Bool) → c ≡ (gate == place && pointwise nat_eq before last) → where_so c (feed_at v (suc n) before bytes) ≡ Some left
        → IsBehindFront (feed_at v (suc n) before bytes) before last left
    by_here false e is = absurd (let none : Option (List ℕ) = None in let f : none ≡ Some left = is in cc f)
    by_here true e is =
        let same : feed_at v (suc n) before bytes ≡ left = cc is in
        let here = and_parts (gate == place) (pointwise nat_eq before last) (sym e) in
        record { front = []; is = same; ends = inl (refl, same_text before last (sym here.1)) }
front_step v n before gate bytes place last left next false is = by_found (record_at v before bytes) refl is
  where
    by_found : (o : Option Record) → record_at v before bytes ≡ o
        → elim o as (λ _. Option (List ℕ)) [ None ↦ None | Some r ↦ behind_at v n (seal v before (record_text r)) (gate + record_size v r) (drop (record_size v r) bytes) place last ] ≡ Some left
        → IsBehindFront (feed_at v (suc n) before bytes) before last left
    by_found None e is = absurd (let none : Option (List ℕ) = None in let f : none ≡ Some left = is in cc f)
    by_found (Some r) e is =
        let rest : List ℕ = feed_at v n (seal v before (record_text r)) (drop (record_size v r) bytes) in
        let more = front_more v before (record_text r) rest last left (next (seal v before (record_text r)) (gate + record_size v r) (drop (record_size v r) bytes) is) in
        subst (λ (l : List ℕ). IsBehindFront l before last left) (sym (feed_on v n before bytes r e)) more

front_at : (v : Version) (n : ℕ) (before : List ℕ) (gate : ℕ) (bytes : List ℕ) (place : ℕ) (last left : List ℕ) → behind_at v n before gate bytes place last ≡ Some left
    → IsBehindFront (feed_at v n before bytes) before last left
front_at v zero before gate bytes place last left is = absurd (let none : Option (List ℕ) = None in let f : none ≡ Some left = is in cc f)
front_at v (suc n) before gate bytes place last left is =
    front_step v n before gate bytes place last left (λ b k l so. front_at v n b k l place last left so) (nat_le place gate) is

front_behind : (v : Version) (before bytes : List ℕ) (place : ℕ) (last left : List ℕ) (b : Bool) → behind_place v before bytes place last b ≡ Some left
    → IsBehindFront (feed_behind v before bytes b) before last left
front_behind v before bytes place last left false is = front_at v (length bytes) before 40 (drop 40 bytes) place last left is
front_behind v before bytes place last left true is =
    let n : Need = need_in (drop 41 bytes) in
    let text : List ℕ = checkpoint_text n in
    let rest : List ℕ = drop (compacted_bytes v n - 1) bytes in
    front_more v before text (feed_at v (length bytes) (seal v before text) rest) last left
    (front_at v (length bytes) (seal v before text) (compacted_bytes v n - 1) rest place last left is)

pub has_front : (v : Version) (mark bytes last left : List ℕ) (used : ℕ) → found_since v mark bytes used last ≡ Some left → HasFront v mark bytes (held v last) left
has_front v mark bytes last left used is =
    (feed_behind v (first_seal v mark) bytes (is_checkpoint bytes), refl, front_behind v (first_seal v mark) bytes (used - 1) (held v last) left (is_checkpoint bytes) is)
