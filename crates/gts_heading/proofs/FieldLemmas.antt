-- One pair of laws for each field: what was read is spelled so, and what is spelled so is read.
use Rattle.gts_heading.proofs.Cited.{◌≡◌, ℕ, ◌<◌, ◌≤◌, ◌⊎◌, inl, inr, Bool, true, false, ◌&&◌, cond, eqb, leb, List, [], ◌∷◌, ◌++◌, length, take, drop, Option, Some, None, Result, Ok, Err, IsTrue, nat_eq, nat_le, refl, sym, ap, subst, ◌∙◌, append_assoc, arith, EOL, IsGap, MessageField, NoBlank, after_gap, after_word, are_capitals, bare_group_at, capitals_at, dec, digits_value, group_at, group_text, is_ascii_digit, is_bbb, is_group, letters_at, list_all, message_group_at, starts_with, two_digits_at, ◌>>=◌, leb-true, le-leb, ne_eqb, and_parts, Decides-eqb, take_at, drop_at, take-append-drop, length-append, length-take-le, starts_is, length-dec, AllDigits-dec, digits_value-dec, dec-digits_value, AllDigits-from_test, test_from_AllDigits, common_steps}

-- the value of a step that did not fail
pub bind_ok : {A B : Type 0} (r : Result A MessageField) (f : A → Result B MessageField) (y : B) → (r >>= f) ≡ Ok y → (x : A) × (r ≡ Ok x) × (f x ≡ Ok y)
bind_ok (Ok x) f y e = (x, refl, e)
bind_ok (Err d) f y e = absurd cc

-- what follows from a step that did not fail
pub step_ok : {A B : Type 0} (r : Result A MessageField) (f : A → Result B MessageField) (y : B) (P : Type 0) → (r >>= f) ≡ Ok y → ((x : A) → r ≡ Ok x → f x ≡ Ok y → P) → P
step_ok r f y P e next = let step = bind_ok r f y e in next step.0 step.1 step.2

-- one more part of the front
pub and_part : (bytes front rest part more : List ℕ) → bytes ≡ front ++ rest → rest ≡ part ++ more → bytes ≡ front ++ part ++ more
and_part bytes front rest part more e f = e ∙ ap (λ (r : List ℕ). front ++ r) f ∙ sym (append_assoc front part more)

-- a test that passed
pub chosen : {A : Type 0} (b : Bool) (d : MessageField) (x y : A) → cond b (Ok x) (Err d) ≡ Ok y → (b ≡ true) × (x ≡ y)
chosen true d x y e = (refl, cc)
chosen false d x y e = absurd cc

-- which way a test went
pub chosen_of : {A : Type 0} (b : Bool) (x y z : A) → cond b x y ≡ z → ((b ≡ true) × (x ≡ z)) ⊎ ((b ≡ false) × (y ≡ z))
chosen_of true x y z e = inl (refl, e)
chosen_of false x y z e = inr (refl, e)

abbrev done : {A : Type 0} → A → Result A MessageField
done x = Ok x

pub ok_is : {A : Type 0} (x y : A) → done x ≡ done y → x ≡ y
ok_is x y e = cc

-- ---- words

pub starts_so : (bytes word : List ℕ) → starts_with nat_eq bytes word ≡ true → bytes ≡ word ++ drop (length word) bytes
starts_so bytes word e = (starts_is Decides-eqb bytes word (starts_with nat_eq bytes word) refl).0 e

pub word_takes : (word : List ℕ) (field : MessageField) (bytes rest : List ℕ) → after_word word field bytes ≡ Ok rest → bytes ≡ word ++ rest
word_takes word field bytes rest e = grind (arith, common_steps, chosen, starts_so)

pub word_again : (word : List ℕ) (field : MessageField) (rest : List ℕ) → after_word word field (word ++ rest) ≡ Ok rest
word_again word field rest = grind (arith, common_steps, starts_is, Decides-eqb, drop_at)

-- ---- capitals

pub capitals_take : (count : ℕ) (field : MessageField) (bytes : List ℕ) (x : List ℕ × List ℕ) → capitals_at count field bytes ≡ Ok x
    → (bytes ≡ x.0 ++ x.1) × (length x.0 ≡ count) × IsTrue (are_capitals x.0)
capitals_take count field bytes x e = grind (arith, common_steps, chosen, and_parts, leb-true, take-append-drop, length-take-le)

pub capitals_again : (count : ℕ) (field : MessageField) (letters rest : List ℕ) → length letters ≡ count → IsTrue (are_capitals letters)
    → capitals_at count field (letters ++ rest) ≡ Ok (letters, rest)
capitals_again count field letters rest len capitals = grind (arith, common_steps, le-leb, length-append, take_at, drop_at)

-- ---- two digits

pub digits_take : (low high : ℕ) (field : MessageField) (bytes : List ℕ) (x : ℕ × List ℕ) → two_digits_at low high field bytes ≡ Ok x
    → (bytes ≡ dec 2 x.0 ++ x.1) × (low ≤ x.0) × (x.0 ≤ high)
digits_take low high field bytes x e =
    let two = take 2 bytes in
    let number = digits_value 10 (take 2 bytes) in
    let passed = chosen (nat_le 2 (length bytes) && list_all is_ascii_digit (take 2 bytes) && nat_le low (digits_value 10 (take 2 bytes)) && nat_le (digits_value 10 (take 2 bytes)) high) field (digits_value 10 (take 2 bytes), drop 2 bytes) x e in
    let below = and_parts (nat_le 2 (length bytes) && list_all is_ascii_digit (take 2 bytes) && nat_le low (digits_value 10 (take 2 bytes))) (nat_le (digits_value 10 (take 2 bytes)) high) passed.0 in
    let above = and_parts (nat_le 2 (length bytes) && list_all is_ascii_digit (take 2 bytes)) (nat_le low (digits_value 10 (take 2 bytes))) below.0 in
    let there = and_parts (nat_le 2 (length bytes)) (list_all is_ascii_digit (take 2 bytes)) above.0 in
    let width : length two ≡ 2 = length-take-le 2 bytes (leb-true _ _ there.0) in
    let written : dec 2 number ≡ two = ap (λ (w : ℕ). dec w number) (sym width) ∙ dec-digits_value two (AllDigits-from_test two there.1) in
    let parts : bytes ≡ dec 2 number ++ drop 2 bytes = sym (take-append-drop 2 bytes) ∙ ap (λ (front : List ℕ). front ++ drop 2 bytes) (sym written) in
    subst (λ (y : ℕ × List ℕ). (bytes ≡ dec 2 y.0 ++ y.1) × (low ≤ y.0) × (y.0 ≤ high)) passed.1
    (parts, leb-true _ _ above.1, leb-true _ _ below.1)

pub digits_again : (low high : ℕ) (field : MessageField) (n : ℕ) (rest : List ℕ) → low ≤ n → n ≤ high → n < 100
    → two_digits_at low high field (dec 2 n ++ rest) ≡ Ok (n, rest)
digits_again low high field n rest above below small =
    let width = length-dec 2 n in
    let long : leb 2 (length (dec 2 n ++ rest)) ≡ true = le-leb _ _ (omega (arith, length-append (dec 2 n) rest, width)) in
    let digits = test_from_AllDigits (dec 2 n) (AllDigits-dec 2 n) in
    let value : digits_value 10 (dec 2 n) ≡ n = digits_value-dec 2 n (omega arith) in
    let at_least : leb low n ≡ true = le-leb _ _ above in
    let at_most : leb n high ≡ true = le-leb _ _ below in
    rw (long, take_at (dec 2 n) rest 2 width, drop_at (dec 2 n) rest 2 width, digits, value, at_least, at_most) refl

-- ---- groups

letters_take : (bytes : List ℕ) (x : List ℕ × List ℕ) → letters_at bytes ≡ Ok x → (bytes ≡ x.0 ++ x.1) × IsTrue (is_bbb x.0)
letters_take bytes x e = grind (arith, common_steps, chosen, take-append-drop)

letters_again : (letters rest : List ℕ) → IsTrue (is_bbb letters) → letters_at (letters ++ rest) ≡ Ok (letters, rest)
letters_again (a ∷ b ∷ c ∷ []) rest e = rw e refl
letters_again _ rest e = absurd cc

pub bare_group_takes : (bytes : List ℕ) (x : Option (List ℕ) × List ℕ) → bare_group_at bytes ≡ Ok x
    → (bytes ≡ group_text x.0 ++ x.1) × IsTrue (is_group x.0)
unfolding bare_group_at
bare_group_takes bytes x e =
    let none : Option (List ℕ) × List ℕ = (None, bytes) in
    elim (chosen_of (starts_with nat_eq bytes (32 ∷ [])) (group_at bytes) (done none) (done x) e) [
      | inl h ↦
          let step = bind_ok (letters_at (drop 1 bytes)) (λ letters. Ok (Some letters.0, letters.1)) x h.1 in
          let letters = letters_take (drop 1 bytes) step.0 step.1 in
          let some : Option (List ℕ) × List ℕ = (Some step.0.0, step.0.1) in
          let parts : bytes ≡ group_text (Some step.0.0) ++ step.0.1 = starts_so bytes (32 ∷ []) h.0 ∙ ap (λ (r : List ℕ). 32 ∷ r) letters.0 in
          subst (λ (y : Option (List ℕ) × List ℕ). (bytes ≡ group_text y.0 ++ y.1) × IsTrue (is_group y.0)) (ok_is some x step.2) (parts, letters.1)
      | inr h ↦ subst (λ (y : Option (List ℕ) × List ℕ). (bytes ≡ group_text y.0 ++ y.1) × IsTrue (is_group y.0)) (ok_is none x h.1) (refl, refl)
    ]

pub bare_group_again : (group : Option (List ℕ)) (rest : List ℕ) → IsTrue (is_group group) → NoBlank rest
    → bare_group_at (group_text group ++ rest) ≡ Ok (group, rest)
unfolding bare_group_at
bare_group_again None rest is none = rw none refl
bare_group_again (Some letters) rest is none = rw (letters_again letters rest is) refl

pub message_group_takes : (bytes : List ℕ) (x : Option (List ℕ) × List ℕ) → message_group_at bytes ≡ Ok x
    → (bytes ≡ group_text x.0 ++ x.1) × IsTrue (is_group x.0)
unfolding message_group_at
message_group_takes bytes x e =
    let none : Option (List ℕ) × List ℕ = (None, bytes) in
    elim (chosen_of (starts_with nat_eq bytes (32 ∷ 13 ∷ [])) (done none) (bare_group_at bytes) (done x) e) [
      | inl h ↦ subst (λ (y : Option (List ℕ) × List ℕ). (bytes ≡ group_text y.0 ++ y.1) × IsTrue (is_group y.0)) (ok_is none x h.1) (refl, refl)
      | inr h ↦ bare_group_takes bytes x h.1
    ]

-- the first letter of a group is a capital, and so no CR
no_cr : (a b c : ℕ) → IsTrue (is_bbb (a ∷ b ∷ c ∷ [])) → eqb 13 a ≡ false
no_cr a b c is = grind (arith, common_steps, ne_eqb, and_parts)

pub message_group_again : (group : Option (List ℕ)) (gap rest : List ℕ) → IsTrue (is_group group) → IsGap gap
    → message_group_at (group_text group ++ (gap ++ (EOL ++ rest))) ≡ Ok (group, gap ++ (EOL ++ rest))
unfolding message_group_at bare_group_at
message_group_again None gap rest is (inl e) = rw e refl
message_group_again None gap rest is (inr e) = rw e refl
message_group_again (Some (a ∷ b ∷ c ∷ [])) gap rest is is_gap = rw (no_cr a b c is, is) refl
message_group_again _ gap rest is is_gap = absurd cc

-- ---- the gap

pub gap_takes : (bytes : List ℕ) → (gap : List ℕ) × IsGap gap × (bytes ≡ gap ++ after_gap bytes)
gap_takes bytes =
    let none : List ℕ = [] in
    let one : List ℕ = 32 ∷ [] in
    elim (chosen_of (starts_with nat_eq bytes (32 ∷ [])) (drop 1 bytes) bytes (after_gap bytes) refl) [
      | inl h ↦ (one, inr refl, starts_so bytes (32 ∷ []) h.0 ∙ ap (λ (r : List ℕ). 32 ∷ r) h.1)
      | inr h ↦ (none, inl refl, h.1)
    ]

pub gap_again : (gap rest : List ℕ) → IsGap gap → after_gap (gap ++ (EOL ++ rest)) ≡ EOL ++ rest
gap_again gap rest (inl e) = rw e refl
gap_again gap rest (inr e) = rw e refl
