-- The parts of a message: what was read is spelled so, and what is spelled so is read.
use Rattle.std.proofs.Common.{◌≡◌, ℕ, ◌-◌, ◌^◌, ◌<◌, ◌≤◌, ◌⊎◌, inl, inr, Bool, true, false, ◌&&◌, ◌||◌, ◌==◌, cond, leb, List, [], ◌∷◌, ◌++◌, length, take, drop, Option, Some, None, Result, Ok, Err, nat_eq, nat_le, refl, sym, ap, subst, ◌∙◌, append_assoc, arith, IfOk, IsOkAnd, codes}
use Rattle.gts_message.specs.Cited.{AllDigits, Bor, EOL, End, Heading, HeadingFields, HeadingStart, IsBody, IsGap, IsMessage, LONGEST_BODY, MessageField, MessageParts, Number, Reads, SOH, Size, SplitMessage, StartLine, after_gap, after_word, body_at, dec, digit_run, digits_value, ends_with, fault, fields_of, heading_at, heading_text, is_ascii_digit, list_all, message_end, message_of, number_at, parts_around, parts_of, prefix_len, split_at, take_while, text_at}
use Rattle.gts_heading.specs.Reading.{◌>>=◌}
use Rattle.std.proofs.lemmas.Bool.{leb-true, le-leb, lt-leb, eqb-true, and_parts, and_from, or_cases}
use Rattle.std.proofs.lemmas.Bool.Decides.{Decides-eqb}
use Rattle.std.proofs.lemmas.Int.Digits.{digits_value-lt}
use Rattle.std.proofs.lemmas.List.{take_at, drop_at, take-append-drop, length-append, length-take-le}
use Rattle.std.proofs.lemmas.List.Sums.{prefix_len-le-length, take_while-cons}
use Rattle.std.proofs.lemmas.Slice.Eq.{ends_is}
use Rattle.gts_alphabet.proofs.LawLemmas.{length-dec, AllDigits-dec, digits_value-dec, dec-digits_value, AllDigits-from_test, test_from_AllDigits}
use Rattle.gts_heading.proofs.LawLemmas.{word_takes, gap_takes, gap_again, line_is_spelled, line_again, and_part, chosen}

-- what went wrong in a reading
abbrev fault_of : Result MessageParts MessageField → Option MessageField
fault_of read = elim read [ Ok _ ↦ None | Err field ↦ Some field ]

-- ---- steps of a reading

-- what follows from a step that did not fail
step_ok : {A B : Type 0} (r : Result A MessageField) (f : A → Result B MessageField) (y : B) (P : Type 0) → (r >>= f) ≡ Ok y → ((x : A) → r ≡ Ok x → f x ≡ Ok y → P) → P
step_ok (Ok x) f y P e next = next x refl e
step_ok (Err d) f y P e next = absurd cc

abbrev done : {A : Type 0} → A → Result A MessageField
done x = Ok x

ok_is : {A : Type 0} (x y : A) → done x ≡ done y → x ≡ y
ok_is x y e = cc

-- ---- the sequence number

front_passes : (p : ℕ → Bool) (x : ℕ) (xs : List ℕ) (b : Bool) → p x ≡ b → list_all p (take_while p xs) ≡ true → list_all p (cond b (x ∷ take_while p xs) []) ≡ true
front_passes p x xs true e rest = and_from (p x) (list_all p (take_while p xs)) e rest
front_passes p x xs false e rest = refl

run_passes : (p : ℕ → Bool) (xs : List ℕ) → list_all p (take_while p xs) ≡ true
run_passes p [] = refl
run_passes p (x ∷ xs) = rw (take_while-cons p x xs) (front_passes p x xs (p x) refl (run_passes p xs))

-- what passes, before what begins with no more that does
run_again : (p : ℕ → Bool) (xs rest : List ℕ) → list_all p xs ≡ true → take_while p rest ≡ [] → take_while p (xs ++ rest) ≡ xs
run_again p [] rest all none = none
run_again p (x ∷ xs) rest all none =
    let both = and_parts (p x) (list_all p xs) all in
    take_while-cons p x (xs ++ rest) ∙ rw both.0 (ap (λ (r : List ℕ). x ∷ r) (run_again p xs rest both.1 none))

run_first : (bytes : List ℕ) → bytes ≡ digit_run bytes ++ drop (length (digit_run bytes)) bytes
run_first bytes =
    let count = prefix_len is_ascii_digit bytes in
    let len : length (take count bytes) ≡ count = length-take-le count bytes (prefix_len-le-length is_ascii_digit bytes) in
    sym (take-append-drop count bytes) ∙ ap (λ (n : ℕ). take count bytes ++ drop n bytes) (sym len)

number_takes : (bytes : List ℕ) (x : ℕ × ℕ × List ℕ) → number_at bytes ≡ Ok x
    → ((x.1 ≡ 3) ⊎ (x.1 ≡ 5)) × (x.0 < 10 ^ x.1) × (bytes ≡ dec x.1 x.0 ++ x.2)
unfolding number_at
number_takes bytes x e =
    let run = digit_run bytes in
    let read : ℕ × ℕ × List ℕ = (digits_value 10 (digit_run bytes), length (digit_run bytes), drop (length (digit_run bytes)) bytes) in
    let passed = chosen ((length (digit_run bytes) == 3) || (length (digit_run bytes) == 5)) Number read x e in
    let digits : AllDigits 10 (digit_run bytes) = AllDigits-from_test (digit_run bytes) (run_passes is_ascii_digit bytes) in
    let width : (length (digit_run bytes) ≡ 3) ⊎ (length (digit_run bytes) ≡ 5) =
    elim (or_cases (length (digit_run bytes) == 3) (length (digit_run bytes) == 5) passed.0) [ inl three ↦ inl (eqb-true _ _ three) | inr five ↦ inr (eqb-true _ _ five) ] in
    let spelled = run_first bytes ∙ ap (λ (front : List ℕ). front ++ drop (length (digit_run bytes)) bytes) (sym (dec-digits_value (digit_run bytes) digits)) in
    subst (λ (y : ℕ × ℕ × List ℕ). ((y.1 ≡ 3) ⊎ (y.1 ≡ 5)) × (y.0 < 10 ^ y.1) × (bytes ≡ dec y.1 y.0 ++ y.2)) {x = read} passed.1
    (width, digits_value-lt 10 (digit_run bytes) digits, spelled)

three_or_five : (w : ℕ) → (w ≡ 3) ⊎ (w ≡ 5) → ((w == 3) || (w == 5)) ≡ true
three_or_five w (inl e) = rw e refl
three_or_five w (inr e) = rw e refl

number_again : (w n : ℕ) (rest : List ℕ) → (w ≡ 3) ⊎ (w ≡ 5) → n < 10 ^ w → digit_run rest ≡ [] → number_at (dec w n ++ rest) ≡ Ok (n, w, rest)
unfolding number_at
number_again w n rest width small none =
    let run : digit_run (dec w n ++ rest) ≡ dec w n = run_again is_ascii_digit (dec w n) rest (test_from_AllDigits (dec w n) (AllDigits-dec w n)) none in
    rw (run, length-dec w n, three_or_five w width, digits_value-dec w n small, drop_at (dec w n) rest w (length-dec w n)) refl

-- no digit follows a number
no_digit : (gap rest : List ℕ) → IsGap gap → digit_run (gap ++ (EOL ++ rest)) ≡ []
no_digit gap rest (inl e) = rw e refl
no_digit gap rest (inr e) = rw e refl

-- ---- the text

text_takes : (bytes text : List ℕ) → text_at bytes ≡ Ok text → bytes ≡ text ++ message_end
unfolding text_at
text_takes bytes text e =
    let passed = chosen (nat_le 4 (length bytes) && ends_with nat_eq bytes message_end) End (take (length bytes - 4) bytes) text e in
    let both = and_parts (nat_le 4 (length bytes)) (ends_with nat_eq bytes message_end) passed.0 in
    let ends : bytes ≡ take (length bytes - 4) bytes ++ message_end = (ends_is Decides-eqb bytes message_end (ends_with nat_eq bytes message_end) refl).0 both.1 in
    ends ∙ ap (λ (t : List ℕ). t ++ message_end) passed.1

text_again : (text : List ℕ) → text_at (text ++ message_end) ≡ Ok text
unfolding text_at
text_again text =
    let len = length-append text message_end in
    let long : leb 4 (length (text ++ message_end)) ≡ true = le-leb _ _ (omega arith) in
    let ends = (ends_is Decides-eqb (text ++ message_end) message_end (ends_with nat_eq (text ++ message_end) message_end) refl).1 text refl in
    rw (long, ends, take_at text message_end (length (text ++ message_end) - 4) (omega arith)) refl

-- ---- the body

pub body_takes : (body : List ℕ) (x : HeadingFields × List ℕ) → body_at body ≡ Ok x → IsBody body x.0 x.1
unfolding body_at
body_takes body x e =
    step_ok (heading_at body) (λ heading. text_at heading.1 >>= λ text. Ok (heading.0, text)) x (IsBody body x.0 x.1) e (λ heading heading_read e1.
    step_ok (text_at heading.1) (λ text. Ok (heading.0, text)) x (IsBody body x.0 x.1) e1 (λ text text_read e2.
    let made : HeadingFields × List ℕ = (heading.0, text) in
    let taken = line_is_spelled body heading.1 heading.0 heading_read in
    let gap = taken.1.0 in
    let spelled = and_part body (heading_text heading.0 ++ gap ++ EOL) heading.1 text message_end taken.1.2 (text_takes heading.1 text text_read) in
    subst (λ (y : HeadingFields × List ℕ). IsBody body y.0 y.1) {x = made} (ok_is made x e2)
    (record { heading_is = taken.0; spelled = (gap, taken.1.1, spelled) })))

pub body_again : (body : List ℕ) (h : HeadingFields) (text : List ℕ) → IsBody body h text → body_at body ≡ Ok (h, text)
unfolding body_at
body_again body h text is =
    let gap = is.spelled.0 in
    let regrouped : body ≡ heading_text h ++ gap ++ EOL ++ (text ++ message_end) = is.spelled.2 ∙ append_assoc (heading_text h ++ gap ++ EOL) text message_end in
    ap body_at regrouped ∙ rw (line_again h gap (text ++ message_end) is.heading_is is.spelled.1, text_again text) refl

-- ---- the message

abbrev made_of : ℕ → ℕ → HeadingFields → List ℕ → List ℕ → MessageParts
made_of number digits heading text body = record { number = number; digits = digits; heading = heading; text = text; body = body }

-- what a body within the limit gives
abbrev within_limit : List ℕ → MessageParts → Result MessageParts MessageField
within_limit body parts = cond (nat_le (length body) LONGEST_BODY) (Ok parts) (Err Size)

-- the parts between the start and the body
line_parts : (message start number rest gap after body : List ℕ) → message ≡ (SOH ∷ EOL) ++ start → start ≡ number ++ rest → rest ≡ gap ++ after → after ≡ EOL ++ body
    → message ≡ message_of (number ++ gap) body
line_parts message start number rest gap after body is_start is_number is_gap is_body =
    let to_number = and_part message (SOH ∷ EOL) start number rest is_start is_number in
    let to_gap = and_part message ((SOH ∷ EOL) ++ number) rest gap after to_number is_gap in
    let to_body = and_part message ((SOH ∷ EOL) ++ number ++ gap) after EOL body to_gap is_body in
    to_body ∙ ap (λ (front : List ℕ). front ++ EOL ++ body) (append_assoc (SOH ∷ EOL) number gap)

pub split_takes : (message : List ℕ) (x : MessageParts) → split_at message ≡ Ok x → IsMessage message x
unfolding split_at
split_takes message x e =
    step_ok (after_word (SOH ∷ EOL) StartLine message) (λ start. number_at start >>= λ number. after_word EOL HeadingStart (after_gap number.2) >>= λ body. body_at body >>= λ found. within_limit body (made_of number.0 number.1 found.0 found.1 body)) x (IsMessage message x) e (λ start start_read e1.
    step_ok (number_at start) (λ number. after_word EOL HeadingStart (after_gap number.2) >>= λ body. body_at body >>= λ found. within_limit body (made_of number.0 number.1 found.0 found.1 body)) x (IsMessage message x) e1 (λ number number_read e2.
    step_ok (after_word EOL HeadingStart (after_gap number.2)) (λ body. body_at body >>= λ found. within_limit body (made_of number.0 number.1 found.0 found.1 body)) x (IsMessage message x) e2 (λ body body_read e3.
    step_ok (body_at body) (λ found. within_limit body (made_of number.0 number.1 found.0 found.1 body)) x (IsMessage message x) e3 (λ found found_read e4.
    let made : MessageParts = made_of number.0 number.1 found.0 found.1 body in
    let passed = chosen (nat_le (length body) LONGEST_BODY) Size made x e4 in
    let number_is = number_takes start number number_read in
    let gap_is = gap_takes number.2 in
    let gap = gap_is.0 in
    let spelled = line_parts message start (dec number.1 number.0) number.2 gap (after_gap number.2) body
    (word_takes (SOH ∷ EOL) StartLine message start start_read) number_is.2 gap_is.2 (word_takes EOL HeadingStart (after_gap number.2) body body_read) in
    subst (IsMessage message) {x = made} passed.1 (record {
      digits = number_is.0;
      number = number_is.1;
      body = body_takes body found found_read;
      short = leb-true _ _ passed.0;
      spelled = (gap, gap_is.1, spelled);
    })))))

-- a message up to its limit
up_to_limit : (w n : ℕ) (gap body : List ℕ) (h : HeadingFields) (text : List ℕ) → (w ≡ 3) ⊎ (w ≡ 5) → n < 10 ^ w → IsGap gap → IsBody body h text
    → split_at (message_of (dec w n ++ gap) body) ≡ within_limit body (made_of n w h text body)
unfolding split_at
up_to_limit w n gap body h text width small is_gap is =
    let regrouped : message_of (dec w n ++ gap) body ≡ (SOH ∷ EOL) ++ (dec w n ++ (gap ++ (EOL ++ body))) =
    append_assoc ((SOH ∷ EOL) ++ (dec w n ++ gap)) EOL body
    ∙ append_assoc (SOH ∷ EOL) (dec w n ++ gap) (EOL ++ body)
    ∙ ap (λ (r : List ℕ). (SOH ∷ EOL) ++ r) (append_assoc (dec w n) gap (EOL ++ body)) in
    ap split_at regrouped
    ∙ rw (number_again w n (gap ++ (EOL ++ body)) width small (no_digit gap body is_gap), gap_again gap body is_gap, body_again body h text is) refl

-- a body within the limit
pub split_within_limit : (w n : ℕ) (gap body : List ℕ) (h : HeadingFields) (text : List ℕ) → (w ≡ 3) ⊎ (w ≡ 5) → n < 10 ^ w → IsGap gap → IsBody body h text → length body ≤ LONGEST_BODY
    → split_at (message_of (dec w n ++ gap) body) ≡ Ok (made_of n w h text body)
split_within_limit w n gap body h text width small is_gap is short =
    let fits : leb (length body) LONGEST_BODY ≡ true = le-leb _ _ short in
    up_to_limit w n gap body h text width small is_gap is ∙ rw fits refl

pub five_within_limit : (gap : List ℕ) (parts : MessageParts) → parts.digits ≡ 5 → parts.number < 10 ^ 5 → IsGap gap → IsBody parts.body parts.heading parts.text → length parts.body ≤ LONGEST_BODY
    → split_at (message_of (dec 5 parts.number ++ gap) parts.body) ≡ Ok parts
five_within_limit gap parts five small is_gap is short =
    split_within_limit 5 parts.number gap parts.body parts.heading parts.text (inr refl) small is_gap is short
    ∙ ap (λ (w : ℕ). Ok (record parts { digits = w })) (sym five)

-- a body past the limit
pub split_past_limit : (w n : ℕ) (gap body : List ℕ) (h : HeadingFields) (text : List ℕ) → (w ≡ 3) ⊎ (w ≡ 5) → n < 10 ^ w → IsGap gap → IsBody body h text → LONGEST_BODY < length body
    → split_at (message_of (dec w n ++ gap) body) ≡ Err Size
split_past_limit w n gap body h text width small is_gap is past =
    let long : leb (length body) LONGEST_BODY ≡ false = lt-leb _ _ past in
    up_to_limit w n gap body h text width small is_gap is ∙ rw long refl

pub split_again : (message : List ℕ) (parts : MessageParts) → IsMessage message parts → split_at message ≡ Ok parts
split_again message parts is =
    ap split_at is.spelled.2
    ∙ split_within_limit parts.digits parts.number is.spelled.0 parts.body parts.heading parts.text is.digits is.number is.spelled.1 is.body is.short

-- ---- the fault of a message

fault_none : (message : List ℕ) (r : Result MessageParts MessageField) → split_at message ≡ r → fault_of r ≡ None → (parts : MessageParts) × IsMessage message parts
fault_none message (Ok parts) e none = (parts, split_takes message parts e)
fault_none message (Err field) e none = absurd cc

pub message_from_fault : (message : List ℕ) → fault message ≡ None → (parts : MessageParts) × IsMessage message parts
message_from_fault message none = fault_none message (split_at message) refl none

pub fault-message : (message : List ℕ) (parts : MessageParts) → IsMessage message parts → fault message ≡ None
fault-message message parts is = ap fault_of (split_again message parts is)

-- the message that has a body behind the number 000 is read as its body is
pub split-around : (body : List ℕ) → split_at (message_of (codes "000") body) ≡ parts_around 0 3 body
unfolding split_at number_at
split-around body = refl

-- ---- what the calls answer

-- the heading and the text that a body was read with
abbrev body_parts : Heading × Bor (List ℕ) → HeadingFields × List ℕ
body_parts found = (fields_of found.0, found.1.now)

pub body_found : (body : List ℕ) (r : Result (Heading × Bor (List ℕ)) MessageField) → Reads body_parts r (body_at body)
    → IfOk r (λ found. IsBody body (fields_of found.0) found.1.now)
body_found body (Ok found) e = body_takes body (body_parts found) e
body_found body (Err field) e = tt

pub body_only : (body : List ℕ) (r : Result (Heading × Bor (List ℕ)) MessageField) → Reads body_parts r (body_at body)
    → (h : HeadingFields) (text : List ℕ) → IsBody body h text → IsOkAnd r (λ found. (fields_of found.0 ≡ h) × (found.1.now ≡ text))
body_only body (Ok found) e h text is =
    let same = ok_is (body_parts found) (h, text) (sym e ∙ body_again body h text is) in
    (ap (λ (x : HeadingFields × List ℕ). x.0) same, ap (λ (x : HeadingFields × List ℕ). x.1) same)
body_only body (Err field) e h text is =
    let apart = sym e ∙ body_again body h text is in
    absurd cc

pub message_found : (message : List ℕ) (r : Result SplitMessage MessageField) → Reads parts_of r (split_at message)
    → IfOk r (λ parts. IsMessage message (parts_of parts))
message_found message (Ok parts) e = split_takes message (parts_of parts) e
message_found message (Err field) e = tt

pub message_only : (message : List ℕ) (r : Result SplitMessage MessageField) → Reads parts_of r (split_at message)
    → (parts : MessageParts) → IsMessage message parts → IsOkAnd r (λ found. parts_of found ≡ parts)
message_only message (Ok found) e parts is = ok_is (parts_of found) parts (sym e ∙ split_again message parts is)
message_only message (Err field) e parts is =
    let apart = sym e ∙ split_again message parts is in
    absurd cc
