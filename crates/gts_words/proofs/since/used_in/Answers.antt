use Rattle.gts_words.proofs.Cited.{◌≡◌, ℕ, ◌-◌, ◌≤◌, true, false, List, length, take, drop, refl, sym, ap, ◌∙◌, arith, length-drop, LONGEST_USED, digits_value, is_ascii_digit, list_all, used_in, take_all, true≢false, false_from_ne_true, common_steps}
use Rattle.gts_words.proofs.CountLemmas.{front_fails, back_fails, both_pass}
use Rattle.gts_words.proofs.since.used_in.Goals as goal

pub returns-in_err-tens : goal.returns-in_err-tens
returns-in_err-tens c =
    let d : List ℕ = c.as_bytes-digits.result.now in
    let i : ℕ = length d - 1 in
    let off : list_all is_ascii_digit (take i d) ≡ false
    = false_from_ne_true (list_all is_ascii_digit (take i d)) (λ h. true≢false (sym (c.in_err-tens.ensures.digits.1 ((c.digits_pass_the_test.ensures (take i d)).0 h)))) in
    c.from_residual.ensures ∙ sym (front_fails d i off) ∙ ap used_in c.as_bytes-digits.ensures.value

pub returns-in_err-ones : goal.returns-in_err-ones
returns-in_err-ones c =
    let d : List ℕ = c.as_bytes-digits.result.now in
    let i : ℕ = length d - 1 in
    let on : list_all is_ascii_digit (take i d) ≡ true = (c.digits_pass_the_test.ensures (take i d)).1 (c.in_ok-tens.ensures.digits.0 refl) in
    let back : List ℕ = take (length d - i) (drop i d) in
    let back_is : back ≡ drop i d = take_all (length d - i) (drop i d) (omega (arith, length-drop i d)) in
    let failed : list_all is_ascii_digit back ≡ false
    = false_from_ne_true (list_all is_ascii_digit back) (λ h. true≢false (sym (c.in_err-ones.ensures.digits.1 ((c.digits_pass_the_test.ensures back).0 h)))) in
    let off : list_all is_ascii_digit (drop i d) ≡ false = ap (list_all is_ascii_digit) (sym back_is) ∙ failed in
    c.from_residual-in_err-ones.ensures ∙ sym (back_fails d i on off) ∙ ap used_in c.as_bytes-digits.ensures.value

pub returns : goal.returns
returns c =
    let d : List ℕ = c.as_bytes-digits.result.now in
    let i : ℕ = length d - 1 in
    let some : 1 ≤ length d = grind (arith, common_steps) in
    let short : length d ≤ LONGEST_USED = grind (arith, common_steps) in
    let front : list_all is_ascii_digit (take i d) ≡ true = (c.digits_pass_the_test.ensures (take i d)).1 (c.in_ok-tens.ensures.digits.0 refl) in
    let back : List ℕ = take (length d - i) (drop i d) in
    let back_is : back ≡ drop i d = take_all (length d - i) (drop i d) (omega (arith, length-drop i d)) in
    let passed : list_all is_ascii_digit back ≡ true = (c.digits_pass_the_test.ensures back).1 (c.in_ok-ones.ensures.digits.0 refl) in
    let rest : list_all is_ascii_digit (drop i d) ≡ true = ap (list_all is_ascii_digit) (sym back_is) ∙ passed in
    sym (both_pass d i c.from.result c.from-2.result (omega (arith, some)) short front rest (c.from.ensures ∙ c.in_ok-tens.ensures.value) (c.from-2.ensures ∙ c.in_ok-ones.ensures.value ∙ ap (digits_value 10) back_is)) ∙ ap used_in c.as_bytes-digits.ensures.value
