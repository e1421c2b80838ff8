-- The key of a bulletin is its first eleven bytes, and stands so in its frames.
use Rattle.gts_count.proofs.Cited.{◌≡◌, ℕ, ◌+◌, ◌<◌, ◌≤◌, true, ◌==◌, cond, List, [], ◌∷◌, ◌++◌, length, set, take, drop, Option, Some, None, Result, Ok, Err, refl, sym, ap, ◌∙◌, arith, is_ok, Bulletin, Choice, CircuitState, Directory, Draws, EOL, HeadingFields, IsBody, IsHeading, Kind, MessageField, MessageParts, Nothing_waits, Outside, Repeats, SOH, State, Taken, after, after_take, body_at, body_of, bulletin_at, channel_bytes, choice, dec, digits_on, drawn, enumerate_from, find, frame, frame_of_draw, heading_of, heading_text, idle, key_of, key_of_frame, letters, message_end, message_of, no_heading, numbered_frame, on, on_circuit, split_at, spoken, with_drawn, true≢false, eq-eqb, ne_eqb, take-append-le, get_or-set_same, drop-append-add, length-dec, channel_bytes-on, body_is_spelled, body_of_message, length-frame, length-letters, draw_index, common_steps}
use Rattle.std.proofs.Common.{length-append}

-- ---- in a body

long_heading : (h : HeadingFields) → IsHeading h → 11 ≤ length (heading_text h)
unfolding heading_text
long_heading h is = grind (arith, common_steps, length-dec)

-- the first of what is put together
front_is : (a b : List ℕ) → 11 ≤ length a → (11 ≤ length (a ++ b)) × (take 11 (a ++ b) ≡ take 11 a)
front_is a b long = (omega (arith, long, length-append a b), take-append-le 11 a b long)

heading_is : (body : List ℕ) (found : HeadingFields × List ℕ) → body_at body ≡ Ok found → heading_of body ≡ found.0
heading_is body found e = ap (λ (r : Result (HeadingFields × List ℕ) MessageField). elim r as (λ _. HeadingFields) [ Ok found ↦ found.0 | Err _ ↦ no_heading ]) e

pub key_body : (body : List ℕ) → is_ok (body_at body) ≡ true → (11 ≤ length body) × (take 11 body ≡ key_of body)
key_body body good = go (body_at body) refl good
  where
    go : (r : Result (HeadingFields × List ℕ) MessageField) → body_at body ≡ r → is_ok r ≡ true → (11 ≤ length body) × (take 11 body ≡ key_of body)
    go (Err field) e ok = absurd (true≢false (sym ok))
    go (Ok found) e ok =
        let is : IsBody body found.0 found.1 = body_is_spelled body found.1 found.0 e in
        let gap : List ℕ = is.spelled.0 in
        let a : List ℕ = heading_text found.0 in
        let f1 = front_is a gap (long_heading found.0 is.heading_is) in
        let f2 = front_is (a ++ gap) EOL f1.0 in
        let f3 = front_is (a ++ gap ++ EOL) found.1 f2.0 in
        let f4 = front_is (a ++ gap ++ EOL ++ found.1) message_end f3.0 in
        (omega (arith, f4.0, ap length is.spelled.2), ap (take 11) is.spelled.2 ∙ f4.1 ∙ f3.1 ∙ f2.1 ∙ f1.1 ∙ sym (ap (λ (h : HeadingFields). take 11 (heading_text h)) (heading_is body found e)))

-- the body of a message that could be read
pub key_message : (m : List ℕ) (parts : MessageParts) → split_at m ≡ Ok parts → (body_of m ≡ parts.body) × (11 ≤ length parts.body) × (take 11 parts.body ≡ key_of (body_of m)) × (heading_of (body_of m) ≡ parts.heading)
key_message m parts e =
    let same : body_of m ≡ parts.body = ap (λ (r : Result MessageParts MessageField). elim r as (λ _. List ℕ) [ Err _ ↦ [] | Ok p ↦ p.body ]) e in
    let read : body_at parts.body ≡ Ok (parts.heading, parts.text) = body_of_message m parts e in
    let key = key_body parts.body (ap is_ok read) in
    (same, key.0, key.1 ∙ sym (ap key_of same), ap heading_of same ∙ heading_is parts.body (parts.heading, parts.text) read)

-- ---- in a frame

drop_is : (xs ys : List ℕ) (n k : ℕ) → k ≡ length xs + n → drop k (xs ++ ys) ≡ drop n ys
drop_is xs ys n k e = ap (λ (j : ℕ). drop j (xs ++ ys)) e ∙ drop-append-add xs ys n

-- behind the head, the number and the ends of lines stands the body
body_in_frame : (kind : Kind) (w n : ℕ) (body : List ℕ) → drop (17 + w) (frame kind (message_of (dec w n) body)) ≡ body
body_in_frame kind w n body =
    let m : List ℕ = message_of (dec w n) body in
    let line : List ℕ = SOH ∷ EOL in
    drop_is (dec 8 (length m) ++ letters kind) m (7 + w) (17 + w) (omega (arith, length-append (dec 8 (length m)) (letters kind), length-dec 8 (length m), length-letters kind))
    ∙ drop_is line (dec w n ++ EOL ++ body) (w + 3) (7 + w) (omega arith)
    ∙ drop_is (dec w n ++ EOL) body 0 (w + 3) (omega (arith, length-append (dec w n) EOL, length-dec w n))

pub key_frame : (b : Bulletin) (w i : ℕ) → is_ok (body_at b.body) ≡ true → (28 + w ≤ length (numbered_frame w i b)) × (key_of_frame w (numbered_frame w i b) ≡ key_of b.body)
key_frame b w i good = grind (arith, common_steps, key_body, length-frame, length-dec, body_in_frame)

-- ---- the frame of a draw

find_last : (e : ℕ) (ts : List ℕ) (p : ℕ) → find (λ (draw : ℕ × ℕ). draw.0 == (e + length ts)) (enumerate_from e (ts ++ p ∷ [])) ≡ Some (e + length ts, p)
find_last e [] p = grind (arith, common_steps, eq-eqb)
find_last e (t ∷ ts) p =
    let n : ℕ = e + length (t ∷ ts) in
    let same : e + 1 + length ts ≡ n = omega arith in
    ap (λ b. cond b (Some (e, t)) (find (λ (draw : ℕ × ℕ). draw.0 == n) (enumerate_from (e + 1) (ts ++ p ∷ [])))) (ne_eqb e n (λ k. omega (arith, k)))
    ∙ ap (λ (x : ℕ). find (λ (draw : ℕ × ℕ). draw.0 == x) (enumerate_from (e + 1) (ts ++ p ∷ []))) (sym same)
    ∙ find_last (e + 1) ts p
    ∙ ap (λ (x : ℕ). Some (x, p)) same

-- what a take says that draws
pub draw_says : (d : Directory) (t : State) (c i p : ℕ) (b : Bulletin) → c < length t.circuits → choice d t c ≡ Draws i p → find (λ x. x.position == p) t.accepted ≡ Some b
    → spoken d t (Taken c) ≡ on (c + 1) (numbered_frame (digits_on d c) i b)
draw_says d t c i p b here is there =
    ap said_so is ∙ ap (λ (u : State). on (c + 1) (frame_of_draw d u c i)) then ∙ ap (on (c + 1)) (ap line_so found ∙ ap frame_so there)
  where
    q : CircuitState
    q = on_circuit t c

    u : State
    u = record t { circuits = set t.circuits c (with_drawn p q) }

    said_so : Choice → Outside
    said_so ch = elim ch as (λ _. Outside) [
      | Repeats index ↦ on (c + 1) (frame_of_draw d (after d t (Taken c)) c index)
      | Draws index position ↦ on (c + 1) (frame_of_draw d (after d t (Taken c)) c index)
      | Nothing_waits ↦ []
    ]

    then : after d t (Taken c) ≡ u
    then = ap (λ (ch : Choice). after_take t c ch) is

    frame_so : Option Bulletin → List ℕ
    frame_so o = elim o as (λ _. List ℕ) [ None ↦ [] | Some x ↦ numbered_frame (digits_on d c) i x ]

    line_so : Option (ℕ × ℕ) → List ℕ
    line_so o = elim o as (λ _. List ℕ) [ None ↦ [] | Some draw ↦ frame_so (bulletin_at u draw.1) ]

    at : q.earlier + length q.taken ≡ i
    at = draw_index d t c i p is

    found : find (λ (r : ℕ × ℕ). r.0 == i) (drawn (on_circuit u c)) ≡ Some (i, p)
    found =
        ap (λ (r : CircuitState). find (λ (r : ℕ × ℕ). r.0 == i) (drawn r)) (get_or-set_same t.circuits c (with_drawn p q) idle here)
        ∙ ap (λ (x : ℕ). find (λ (r : ℕ × ℕ). r.0 == x) (enumerate_from q.earlier (q.taken ++ p ∷ []))) (sym at)
        ∙ find_last q.earlier q.taken p
        ∙ ap (λ (x : ℕ). Some (x, p)) at

-- the bytes that are said on a channel
pub said_bytes : (channel : ℕ) (xs ys : List ℕ) → on channel xs ≡ on channel ys → xs ≡ ys
said_bytes channel xs ys e = sym (channel_bytes-on channel xs) ∙ ap (channel_bytes channel) e ∙ channel_bytes-on channel ys
