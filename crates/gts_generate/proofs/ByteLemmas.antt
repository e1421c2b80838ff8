-- Bytes that a text doesn't have.
use Rattle.gts_generate.proofs.Cited.{◌≡◌, ℕ, zero, suc, ◌+◌, ◌/◌, ◌%◌, ◌<◌, ◌≤◌, Bool, true, false, cond, not, ◌&&◌, ◌||◌, ◌==◌, List, [], ◌∷◌, ◌++◌, Option, Some, None, refl, ◌∙◌, arith, decimal, count_by, HeadingFields, IsHeading, are_capitals, dec, digit_glyph, digits_onto, group_text, heading_text, is_ascii_uppercase, is_group, list_all, digits, eqb-true, leb-true, ne_eqb, and_parts, and_from, or_cases, list_all-append, sum_by-cons, common_steps}

-- a byte stands nowhere in a text
abbrev pub lacks : ℕ → List ℕ → Bool
lacks x bytes = list_all (λ byte. not (byte == x)) bytes

pub lacks-append : (x : ℕ) (xs ys : List ℕ) → lacks x xs ≡ true → lacks x ys ≡ true → lacks x (xs ++ ys) ≡ true
lacks-append x xs ys e f = list_all-append (λ byte. not (byte == x)) xs ys ∙ and_from (lacks x xs) (lacks x ys) e f

other : (b x : ℕ) → (b ≡ x → ⊥) → not (b == x) ≡ true
other b x differs = rw (ne_eqb b x differs) refl

pub one_more : (x b : ℕ) (bytes : List ℕ) → (b ≡ x → ⊥) → lacks x bytes ≡ true → lacks x (b ∷ bytes) ≡ true
one_more x b bytes differs e = and_from (not (b == x)) (lacks x bytes) (other b x differs) e

-- digits are no byte below 48
pub lacks-dec : (x w n : ℕ) → x < 48 → lacks x (dec w n) ≡ true
unfolding dec
lacks-dec x zero n low = refl
lacks-dec x (suc w) n low = grind (arith, common_steps, lacks-append, one_more, lacks-dec x w (n / 10) low)

-- nor those of a plain decimal
glyph : (x d : ℕ) → x < 48 → digit_glyph false d ≡ x → ⊥
glyph x d low e = grind (arith, common_steps)

lacks-onto : (x k n : ℕ) (acc : List ℕ) → x < 48 → lacks x acc ≡ true → lacks x (digits_onto k 10 false n acc) ≡ true
lacks-onto x zero n acc low e = e
lacks-onto x (suc k) n acc low e =
    let first : lacks x (digit_glyph false (n % 10) ∷ acc) ≡ true = one_more x (digit_glyph false (n % 10)) acc (glyph x (n % 10) low) e in
    either (n / 10 == 0) (digit_glyph false (n % 10) ∷ acc) (digits_onto k 10 false (n / 10) (digit_glyph false (n % 10) ∷ acc)) first (lacks-onto x k (n / 10) (digit_glyph false (n % 10) ∷ acc) low first)
  where
    either : (b : Bool) (xs ys : List ℕ) → lacks x xs ≡ true → lacks x ys ≡ true → lacks x (cond b xs ys) ≡ true
    either true xs ys p q = p
    either false xs ys p q = q

pub lacks-decimal : (x n : ℕ) → x < 48 → lacks x (decimal n) ≡ true
unfolding digits
lacks-decimal x n low = lacks-onto x 64 n [] low refl

-- capitals are no byte below 65
capital : (x b : ℕ) → x < 65 → is_ascii_uppercase b ≡ true → b ≡ x → ⊥
capital x b low up e = grind (arith, common_steps, leb-true, and_parts)

pub lacks-capitals : (x : ℕ) (letters : List ℕ) → x < 65 → are_capitals letters ≡ true → lacks x letters ≡ true
lacks-capitals x [] low up = refl
lacks-capitals x (b ∷ letters) low up =
    let both = and_parts (is_ascii_uppercase b) (are_capitals letters) up in
    one_more x b letters (capital x b low both.0) (lacks-capitals x letters low both.1)

-- nor are the letters of a group
abbrev are_group : ℕ → ℕ → Bool
are_group a b = ((a == 82) && (b == 82)) || ((a == 67) && (b == 67)) || ((a == 65) && (b == 65)) || ((a == 80) && is_ascii_uppercase b)

equal-high : (n a b : ℕ) → 65 ≤ n → ((a == n) && (b == n)) ≡ true → (65 ≤ a) × (65 ≤ b)
equal-high n a b low e = grind (arith, common_steps, and_parts, eqb-true)

group-high : (a b : ℕ) → are_group a b ≡ true → (65 ≤ a) × (65 ≤ b)
group-high a b e = grind (arith, common_steps, or_cases, equal-high, and_parts, eqb-true, leb-true)

lacks-group : (x : ℕ) (bbb : Option (List ℕ)) → x < 32 → is_group bbb ≡ true → lacks x (group_text bbb) ≡ true
lacks-group x None low is = refl
lacks-group x (Some (a ∷ b ∷ c ∷ [])) low is = grind (arith, common_steps, and_parts, group-high, one_more, capital)
lacks-group x _ low is = absurd (cc)

-- the text of a heading whose letters lack it
pub lacks-heading_text : (x : ℕ) (h : HeadingFields) → x < 32 → lacks x h.tt ≡ true → lacks x h.aa ≡ true → lacks x h.cccc ≡ true
    → lacks x (group_text h.bbb) ≡ true → lacks x (heading_text h) ≡ true
unfolding heading_text
lacks-heading_text x h low tt_lacks aa_lacks cccc_lacks bbb_lacks =
    let joined = λ (xs ys : List ℕ) (e : lacks x xs ≡ true) (f : lacks x ys ≡ true). lacks-append x xs ys e f in
    let digit : x < 48 = omega arith in
    let blank : lacks x (32 ∷ []) ≡ true = one_more x 32 [] (λ e. absurd (omega arith)) refl in
    let t₁ : List ℕ = h.tt ++ h.aa in
    let e₁ : lacks x t₁ ≡ true = joined h.tt h.aa tt_lacks aa_lacks in
    let t₂ : List ℕ = t₁ ++ dec 2 h.ii ++ 32 ∷ [] in
    let e₂ : lacks x t₂ ≡ true = joined (t₁ ++ dec 2 h.ii) (32 ∷ []) (joined t₁ (dec 2 h.ii) e₁ (lacks-dec x 2 h.ii digit)) blank in
    let t₃ : List ℕ = t₂ ++ h.cccc ++ 32 ∷ [] in
    let e₃ : lacks x t₃ ≡ true = joined (t₂ ++ h.cccc) (32 ∷ []) (joined t₂ h.cccc e₂ cccc_lacks) blank in
    let t₄ : List ℕ = t₃ ++ dec 2 h.day in
    let e₄ : lacks x t₄ ≡ true = joined t₃ (dec 2 h.day) e₃ (lacks-dec x 2 h.day digit) in
    let t₅ : List ℕ = t₄ ++ dec 2 h.hour in
    let e₅ : lacks x t₅ ≡ true = joined t₄ (dec 2 h.hour) e₄ (lacks-dec x 2 h.hour digit) in
    let t₆ : List ℕ = t₅ ++ dec 2 h.minute in
    let e₆ : lacks x t₆ ≡ true = joined t₅ (dec 2 h.minute) e₅ (lacks-dec x 2 h.minute digit) in
    joined t₆ (group_text h.bbb) e₆ bbb_lacks

-- a heading has no byte below 32
pub lacks-heading : (x : ℕ) (h : HeadingFields) → x < 32 → IsHeading h → lacks x (heading_text h) ≡ true
lacks-heading x h low is = grind (arith, common_steps, lacks-heading_text, lacks-capitals, lacks-group)

-- a byte that a text lacks isn't counted in it
passes_on : (b : Bool) (n : ℕ) → not b ≡ true → cond b 1 0 + n ≡ n
passes_on true n e = absurd (cc)
passes_on false n e = omega arith

pub counts-none : (x : ℕ) (bytes : List ℕ) → lacks x bytes ≡ true → count_by (λ byte. byte == x) bytes ≡ 0
counts-none x [] e = refl
counts-none x (b ∷ bytes) e =
    let both = and_parts (not (b == x)) (lacks x bytes) e in
    sum_by-cons (λ (byte : ℕ). cond (byte == x) 1 0) b bytes
    ∙ passes_on (b == x) (count_by (λ byte. byte == x) bytes) both.0
    ∙ counts-none x bytes both.1
