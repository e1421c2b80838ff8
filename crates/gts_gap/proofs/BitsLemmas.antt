-- Bits in words, as a list.
use Rattle.gts_gap.proofs.Cited.{◌≡◌, ◌≢◌, ℕ, ◌*◌, ◌/◌, ◌%◌, ◌^◌, ◌<◌, ◌⊎◌, ◌==◌, Bool, true, false, List, length, set, get_or, bit_and, bit_or, inl, inr, sym, ap, ◌∙◌, arith, bit_at, bit_not, bits_in, is_set, w64, cases_eq, eq-eqb, bit_at_set_same, bit_at_set_other, bit_at_clear_same, bit_at_clear_other, length-set, get_or-set_same, get_or-set_other, ext_get_or, length-map-range_with_len, get_or-map-range_with_len}

pub bits-long : (ws : List ℕ) → length (bits_in ws) ≡ 64 * length ws
bits-long ws = length-map-range_with_len (is_set ws) 0 (64 * length ws)

pub bits-read : (ws : List ℕ) (place : ℕ) → place < 64 * length ws → get_or (bits_in ws) place false ≡ is_set ws place
bits-read ws place within = get_or-map-range_with_len (is_set ws) 0 (64 * length ws) place place false within (omega arith)

-- a word that differs from the one at its place in one bit
pub record IsWith (old new i : ℕ) (value : Bool) : Type 0 where
  pub here : (bit_at new i == 1) ≡ value
  pub others : (j : ℕ) → j < 64 → j ≢ i → bit_at new j ≡ bit_at old j

-- one bit is written
pub bits-set : (ws : List ℕ) (place word : ℕ) (value : Bool) → place < 64 * length ws
    → IsWith (get_or ws (place / 64) 0) word (place % 64) value → bits_in (set ws (place / 64) word) ≡ set (bits_in ws) place value
bits-set ws place word value within w =
    let new : List ℕ = set ws (place / 64) word in
    let long : length new ≡ length ws = length-set ws (place / 64) word in
    let inside : place / 64 < length ws = omega (arith, within) in
    let size : length (bits_in new) ≡ 64 * length ws = bits-long new ∙ ap (λ (n : ℕ). 64 * n) long in
    ext_get_or false (bits_in new) (set (bits_in ws) place value) (size ∙ sym (bits-long ws) ∙ sym (length-set (bits_in ws) place value))
    (λ i below.
    let under : i < 64 * length ws = omega (arith, below, size) in
    let read : get_or (bits_in new) i false ≡ is_set new i = bits-read new i (omega (arith, under, long)) in
    read ∙ elim (cases_eq i place) [
      | inl same ↦
          let word_is : get_or new (i / 64) 0 ≡ word = ap (λ (n : ℕ). get_or new (n / 64) 0) same ∙ get_or-set_same ws (place / 64) word 0 inside in
          ap (λ (n : ℕ). bit_at n (i % 64) == 1) word_is ∙ ap (λ (n : ℕ). bit_at word (n % 64) == 1) same ∙ w.here
          ∙ sym (ap (λ (n : ℕ). get_or (set (bits_in ws) place value) n false) same
          ∙ get_or-set_same (bits_in ws) place value false (omega (arith, within, bits-long ws)))
      | inr other ↦
          elsewhere i other (cases_eq (i / 64) (place / 64))
          ∙ sym (get_or-set_other (bits_in ws) place i value false other ∙ bits-read ws i under)
    ])
  where
    elsewhere : (i : ℕ) → i ≢ place → (i / 64 ≡ place / 64) ⊎ (i / 64 ≢ place / 64) → is_set (set ws (place / 64) word) i ≡ is_set ws i
    elsewhere i other (inl same) =
        let inside : place / 64 < length ws = omega (arith, within) in
        let new : List ℕ = set ws (place / 64) word in
        let word_is : get_or new (i / 64) 0 ≡ word = ap (λ (n : ℕ). get_or new n 0) same ∙ get_or-set_same ws (place / 64) word 0 inside in
        ap (λ (n : ℕ). bit_at n (i % 64) == 1) word_is
        ∙ ap (λ (b : ℕ). b == 1) (w.others (i % 64) (omega arith) (λ e. other (omega (arith, e, same))))
        ∙ ap (λ (n : ℕ). bit_at (get_or ws n 0) (i % 64) == 1) (sym same)
    elsewhere i other (inr differs) = ap (λ (n : ℕ). bit_at n (i % 64) == 1) (get_or-set_other ws (place / 64) (i / 64) word 0 differs)

-- `word | 1 << i`, and `word & !(1 << i)`
pub with-set : (old word i : ℕ) → i < 64 → word ≡ old → IsWith old (bit_or word (1 * 2 ^ i % 2 ^ 64)) i true
with-set old word i within same = record {
  here = eq-eqb _ 1 (bit_at_set_same w64 word i within);
  others = λ j below other. bit_at_set_other w64 word i within j other ∙ ap (λ (n : ℕ). bit_at n j) same;
}

pub with-clear : (old word i : ℕ) → i < 64 → word ≡ old → IsWith old (bit_and word (bit_not w64 (1 * 2 ^ i % 2 ^ 64))) i false
with-clear old word i within same = record {
  here = ap (λ (b : ℕ). b == 1) (bit_at_clear_same w64 word i within);
  others = λ j below other. bit_at_clear_other w64 word i within j below other ∙ ap (λ (n : ℕ). bit_at n j) same;
}
