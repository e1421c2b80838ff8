-- What is held, and what is left of a capture.
use Rattle.gts_replay.proofs.Cited.{◌≡◌, ℕ, ◌+◌, ◌-◌, ◌<◌, ◌≤◌, List, [], ◌∷◌, ◌++◌, length, take, drop, sym, ap, subst, ◌∙◌, append_assoc, arith, length-append, take-append-drop, drop-take, drop-drop, append-nil, length-take-le, length-drop, take-append-le, take-append-add, put_mid, post_of, BadByte, CaptureKind, FeedHead, Held, IsBadAt, IsPartIn, IsStop, LONGEST_CAPTURE, dec, head_text, readable_from, common_steps}
use Rattle.gts_replay.specs.declared.head_cursor.Stop.TheVariants.{Bad}
use Rattle.gts_replay.specs.Cited.{EndsInHead}
use Rattle.gts_connection.specs.Capture as capture

-- ---- the part of a buffer from a start to an end

-- what is held behind the first bytes of it
pub behind_first : (start end n : ℕ) (buffer : List ℕ) → n ≤ end - start → take (end - (start + n)) (drop (start + n) buffer) ≡ drop n (take (end - start) (drop start buffer))
behind_first start end n buffer within =
    let rest : ℕ = end - (start + n) in
    let split : end - start ≡ n + rest = omega arith in
    sym (ap (λ (k : ℕ). drop n (take k (drop start buffer))) split ∙ drop-take n rest (drop start buffer) ∙ ap (λ (xs : List ℕ). take rest xs) (drop-drop n start buffer))

pub handed_on : (start end n : ℕ) (buffer copied into : List ℕ) → n ≤ end - start → end ≤ length buffer → copied ≡ take n (take (end - start) (drop start buffer))
    → take (end - start) (drop start buffer) ≡ take n (copied ++ into) ++ take (end - (start + n)) (drop (start + n) buffer)
handed_on start end n buffer copied into within inside is = grind (arith, common_steps, length-take-le, length-drop, take-append-drop, behind_first)

-- what is held after so many bytes were read behind it
pub filled : (a k n : ℕ) (xs ys : List ℕ) → a ≤ length xs → n ≤ length ys → take (a + n) (put_mid a k xs ys) ≡ take a xs ++ take n ys
filled a k n xs ys within few =
    let after : List ℕ = post_of a k xs in
    let front : length (take a xs) ≡ a = length-take-le a xs within in
    ap (λ (m : ℕ). take (m + n) (take a xs ++ (ys ++ after))) (sym front) ∙ take-append-add (take a xs) (ys ++ after) n ∙ ap (λ (zs : List ℕ). take a xs ++ zs) (take-append-le n ys after few)

-- ---- what is left

-- a head has at most 12 bytes
longest_head : (h : capture.Head) → length (head_text h) ≤ 12
unfolding dec
longest_head (FeedHead c n) = omega arith
longest_head h = omega arith

pub part_is_short : (circuits : ℕ) (kind : CaptureKind) (bytes : List ℕ) → IsPartIn circuits kind bytes → length bytes < 12
part_is_short circuits kind bytes h = omega (arith, longest_head h.0, ap length h.4, length-append bytes (h.1 ∷ h.2))

pub stop_is_bad : (held : Held) (left : List ℕ) (behind at : ℕ) → IsStop held.circuits held.kind held.ahead (Bad behind) → at ≡ held.at + (length held.ahead - behind)
    → IsBadAt held (held.ahead ++ left) at
stop_is_bad held left behind at stop place =
    let front : List ℕ = stop.0 in
    let rest : List ℕ = stop.1 ∷ stop.2 in
    let text : held.ahead ++ left ≡ front ++ stop.1 ∷ (stop.2 ++ left) = ap (λ (xs : List ℕ). xs ++ left) stop.3 ∙ append_assoc front rest left in
    let good : length held.ahead - behind ≡ length front = omega (arith, ap length stop.3, length-append front rest, stop.4) in
    BadByte front stop.1 (stop.2 ++ left) stop.5 stop.6 text (place ∙ ap (λ (n : ℕ). held.at + n) good)

pub end_is_bad : (held : Held) (left : List ℕ) (at : ℕ) → IsPartIn held.circuits held.kind held.ahead → left ≡ [] → at ≡ held.at + (length held.ahead - 0)
    → IsBadAt held (held.ahead ++ left) at
end_is_bad held left at part nothing place = grind (arith, common_steps, append-nil)

-- what is read behind what is held
pub readable-held : (held : Held) (left : List ℕ) → held.at + length held.ahead ≤ LONGEST_CAPTURE
    → readable_from held.at (held.ahead ++ left) ≡ held.ahead ++ readable_from (held.at + length held.ahead) left
readable-held held left within =
    let more : ℕ = LONGEST_CAPTURE - (held.at + length held.ahead) in
    let all : LONGEST_CAPTURE - held.at ≡ length held.ahead + more = omega (arith, within) in
    ap (λ (n : ℕ). take n (held.ahead ++ left)) all ∙ take-append-add held.ahead left more

-- what is bad stays bad at the same place, whatever of it was read ahead
pub bad_since : (old now : Held) (text left : List ℕ) (at : ℕ) → now ≡ record old { ahead = now.ahead } → left ≡ text → IsBadAt now left at → IsBadAt old text at
bad_since old now text left at same e h =
    let P : Held → Type 0 = λ (x : Held). IsBadAt x text at in
    go (subst P same (subst (λ (xs : List ℕ). IsBadAt now xs at) e h))
  where
    go : IsBadAt (record old { ahead = now.ahead }) text at → IsBadAt old text at
    go (BadByte front byte unread part none is place) = BadByte front byte unread part none is place
    go (EndsInHead part place) = EndsInHead part place

-- what is read of what is left stays the same, however much of it was read ahead
pub same_readable : (old now : Held) (before after : List ℕ) → now.at + length now.ahead ≤ LONGEST_CAPTURE → now ≡ record old { ahead = now.ahead }
    → now.ahead ++ after ≡ old.ahead ++ before
    → now.ahead ++ readable_from (now.at + length now.ahead) after ≡ readable_from old.at (old.ahead ++ before)
same_readable old now before after within same told = grind (arith, common_steps, readable-held)
