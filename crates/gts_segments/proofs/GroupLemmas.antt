-- The groups of segments, and the texts of their headings.
use Rattle.std.proofs.Common.{◌≡◌, ℕ, ◌+◌, ◌-◌, ◌*◌, ◌/◌, ◌%◌, ◌<◌, ◌≤◌, ◌⊎◌, inl, inr, Bool, true, false, ◌&&◌, ◌||◌, cond, eqb, List, [], ◌∷◌, length, take, Option, Some, None, IsTrue, IsSome, take_all, refl, sym, ap, ◌∙◌, mod-lt, arith}
use Rattle.gts_segments.specs.Cited.{Amendment, Correction, Delayed, GROUPS, LETTERS, LastSegment, PLACES, Segment, group_at, is_ascii_uppercase, is_segment_group, is_segment_kind, kind_of}
use Rattle.std.proofs.lemmas.Bool.{true≢false, leb-true, le-leb, and_parts, and_from, eqb-true, ne_eqb}

pub some_group : (group : Option (List ℕ)) → IsTrue (is_segment_group group) → IsSome group
some_group None is = absurd (true≢false (sym is))
some_group (Some letters) is = refl

-- what fills its place is the whole text
pub whole_text : (bytes text : List ℕ) (n : ℕ) → length bytes ≡ n → take n bytes ≡ text → bytes ≡ text
whole_text bytes text n long taken = sym (take_all n bytes (omega (arith, long))) ∙ taken

pub cond-or : (a b : Bool) → cond a true b ≡ (a || b)
cond-or true b = refl
cond-or false b = refl

-- ---- capitals

upper : (c : ℕ) → 65 ≤ c → c ≤ 90 → is_ascii_uppercase c ≡ true
upper c low high = and_from _ _ (le-leb _ _ low) (le-leb _ _ high)

upper_range : (c : ℕ) → is_ascii_uppercase c ≡ true → (65 ≤ c) × (c ≤ 90)
upper_range c is = let both = and_parts _ _ is in (leb-true _ _ both.0, leb-true _ _ both.1)

-- ---- the group at a place

pub kind_of_place : (place : ℕ) → place < PLACES → kind_of (group_at place) ≡ Some (Segment place)
kind_of_place place below =
    let high = 65 + place / 26 in
    let low = 65 + place % 26 in
    let small : place % 26 < 26 = mod-lt place (omega arith) in
    let is_low : is_ascii_uppercase low ≡ true = upper low (omega arith) (omega (arith, small)) in
    let no_z : eqb high 90 ≡ false = ne_eqb high 90 (λ e. omega (arith, e, below)) in
    let is_high : is_ascii_uppercase high ≡ true = upper high (omega arith) (omega (arith, below)) in
    let number : 26 * (high - 65) + (low - 65) ≡ place = omega arith in
    rw (is_low, no_z, is_high) (ap (λ (n : ℕ). Some (Segment n)) number)

pub kind_of_last : (letter : ℕ) → letter < LETTERS → kind_of (group_at (PLACES + letter)) ≡ Some (LastSegment (65 + letter))
kind_of_last letter below =
    let high : 65 + (PLACES + letter) / 26 ≡ 90 = omega (arith, below) in
    let low : 65 + (PLACES + letter) % 26 ≡ 65 + letter = omega (arith, below) in
    let is_low : is_ascii_uppercase (65 + letter) ≡ true = upper (65 + letter) (omega arith) (omega (arith, below)) in
    ap (λ (c : ℕ). kind_of (80 ∷ c ∷ (65 + (PLACES + letter) % 26) ∷ [])) high
    ∙ ap (λ (c : ℕ). kind_of (80 ∷ 90 ∷ c ∷ [])) low
    ∙ rw is_low refl

-- one of five tests passes, and it is the fourth or the fifth
segment_passes : (u x y z l s : Bool) (a b c d : ℕ) (e : ℕ)
    → is_segment_kind (cond u (cond x (Some (Delayed a)) (cond y (Some (Correction b)) (cond z (Some (Amendment c)) (cond l (Some (LastSegment d)) (cond s (Some (Segment e)) None))))) None) ≡ true
    → (u ≡ true) × ((l ≡ true) ⊎ (s ≡ true))
segment_passes false x y z l s a b c d e is = absurd (true≢false (sym is))
segment_passes true true y z l s a b c d e is = absurd (true≢false (sym is))
segment_passes true false true z l s a b c d e is = absurd (true≢false (sym is))
segment_passes true false false true l s a b c d e is = absurd (true≢false (sym is))
segment_passes true false false false true s a b c d e is = (refl, inl refl)
segment_passes true false false false false true a b c d e is = (refl, inr refl)
segment_passes true false false false false false a b c d e is = absurd (true≢false (sym is))

-- three capitals, the first of them P, stand at a place
stands : (a b c : ℕ) → a ≡ 80 → (65 ≤ b) × (b ≤ 90) → (65 ≤ c) × (c ≤ 90) → (place : ℕ) × (place < GROUPS) × (a ∷ b ∷ c ∷ [] ≡ group_at place)
stands a b c is_p high low =
    let place : ℕ = 26 * (b - 65) + (c - 65) in
    let first : 65 + place / 26 ≡ b = omega (arith, high.0, high.1, low.0, low.1) in
    let second : 65 + place % 26 ≡ c = omega (arith, high.0, high.1, low.0, low.1) in
    let small : place < GROUPS = omega (arith, high.0, high.1, low.0, low.1) in
    (place, small, ap (λ (x : ℕ). x ∷ b ∷ c ∷ []) is_p ∙ ap (λ (x : ℕ). 80 ∷ x ∷ c ∷ []) (sym first) ∙ ap (λ (x : ℕ). 80 ∷ (65 + place / 26) ∷ x ∷ []) (sym second))

pub place_of_segment : (letters : List ℕ) → is_segment_group (Some letters) ≡ true → (place : ℕ) × (place < GROUPS) × (letters ≡ group_at place)
place_of_segment (a ∷ b ∷ c ∷ []) is =
    let passed = segment_passes (is_ascii_uppercase c) (eqb a 82 && eqb b 82) (eqb a 67 && eqb b 67) (eqb a 65 && eqb b 65) (eqb a 80 && eqb b 90) (eqb a 80 && is_ascii_uppercase b) c c c c (26 * (b - 65) + (c - 65)) is in
    elim passed.1 [
      | inl last ↦
          let both = and_parts (eqb a 80) (eqb b 90) last in
          let z : b ≡ 90 = eqb-true b 90 both.1 in
          stands a b c (eqb-true a 80 both.0) (omega (arith, z), omega (arith, z)) (upper_range c passed.0)
      | inr before ↦
          let both = and_parts (eqb a 80) (is_ascii_uppercase b) before in
          stands a b c (eqb-true a 80 both.0) (upper_range b both.1) (upper_range c passed.0)
    ]
place_of_segment _ is = absurd (true≢false (sym is))
