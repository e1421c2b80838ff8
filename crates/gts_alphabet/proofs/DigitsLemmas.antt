-- Numbers in a fixed count of decimal digits, written and read again.
use Rattle.std.proofs.lemmas.Grind.{common_steps}
use Rattle.std.proofs.Common.{◌≡◌, ℕ, zero, suc, ◌+◌, ◌*◌, ◌/◌, ◌%◌, ◌^◌, ◌<◌, ◌≤◌, List, [], ◌∷◌, ◌++◌, true, length, get_or, drop, set, add-one, refl, sym, ◌∙◌, arith}
use Rattle.gts_alphabet.specs.Cited.{AllDigits, dec, digit_value, digits_value, digits_value_after, is_ascii_digit, list_all}
use Rattle.std.proofs.lemmas.Bool.{leb-true, le-leb, and_parts, and_from}
use Rattle.std.proofs.lemmas.List.{length_push, drop-set, append_assoc}
use Rattle.std.proofs.lemmas.Int.Digits.{digits_push, digits_value_push, digits_value-lt}
use Rattle.std.proofs.lemmas.Str.{digit_value_digit}
use Rattle.std.proofs.lemmas.Str.Parse.{digit_from_value}

pub digit_value-char : (d : ℕ) → d < 10 → digit_value (48 + d) ≡ d
digit_value-char d small = omega (arith, digit_value_digit (48 + d) (omega arith, omega arith))

pub length-dec : (w n : ℕ) → length (dec w n) ≡ w
unfolding dec
length-dec zero n = refl
length-dec (suc w) n = length_push (dec w (n / 10)) (48 + n % 10) ∙ omega (arith, length-dec w (n / 10))

pub AllDigits-dec : (w n : ℕ) → AllDigits 10 (dec w n)
unfolding dec
AllDigits-dec zero n = tt
AllDigits-dec (suc w) n = digits_push 10 (dec w (n / 10)) (48 + n % 10) (AllDigits-dec w (n / 10)) (omega (arith, digit_value-char (n % 10) (omega arith)))

pub digits_value-dec : (w n : ℕ) → n < 10 ^ w → digits_value 10 (dec w n) ≡ n
unfolding dec
digits_value-dec zero n small = omega arith
digits_value-dec (suc w) n small =
    let front = digits_value-dec w (n / 10) (omega arith) in
    let last = digit_value-char (n % 10) (omega arith) in
    digits_value_push 10 (dec w (n / 10)) (48 + n % 10) ∙ omega (arith, front, last)

-- a digit is known by its value
same_digit : (c d : ℕ) → digit_value c < 10 → digit_value d < 10 → digit_value c ≡ digit_value d → c ≡ d
same_digit c d small_c small_d e = grind (arith, common_steps, digit_value_digit, digit_from_value)

-- as many digits that write the same number are the same digits
same_digits : (m n : ℕ) (cs ds : List ℕ) → AllDigits 10 cs → AllDigits 10 ds → length cs ≡ length ds → digits_value_after 10 m cs ≡ digits_value_after 10 n ds → (m ≡ n) × (cs ≡ ds)
same_digits m n [] [] _ _ _ e = (e, refl)
same_digits m n [] (d ∷ ds) _ _ len e = absurd (omega (arith, len))
same_digits m n (c ∷ cs) [] _ _ len e = absurd (omega (arith, len))
same_digits m n (c ∷ cs) (d ∷ ds) all_c all_d len e =
    let rest = same_digits (m * 10 + digit_value c) (n * 10 + digit_value d) cs ds all_c.1 all_d.1 (omega (arith, len)) e in
    let value : digit_value c ≡ digit_value d = omega (arith, rest.0, all_c.0, all_d.0) in
    let head = same_digit c d all_c.0 all_d.0 value in
    let tail = rest.1 in
    (omega (arith, rest.0, all_c.0, all_d.0), cc)

pub dec-digits_value : (ds : List ℕ) → AllDigits 10 ds → dec (length ds) (digits_value 10 ds) ≡ ds
dec-digits_value ds all =
    let number = digits_value 10 ds in
    let written = dec (length ds) number in
    (same_digits 0 0 written ds (AllDigits-dec (length ds) number) all (length-dec (length ds) number) (digits_value-dec (length ds) number (digits_value-lt 10 ds all))).1

pub AllDigits-get_or : (radix : ℕ) (cs : List ℕ) (i : ℕ) → i < length cs → AllDigits radix cs → digit_value (get_or cs i 0) < radix
AllDigits-get_or radix [] i inside all = absurd (omega (arith, inside))
AllDigits-get_or radix (c ∷ cs) zero inside all = all.0
AllDigits-get_or radix (c ∷ cs) (suc i) inside all = AllDigits-get_or radix cs i (omega (arith, inside)) all.1

pub dec-zero : (n : ℕ) → dec 0 n ≡ []
unfolding dec
dec-zero n = refl

-- one more digit is written in front of those that are there
pub dec_written : (k rest : ℕ) (digits : List ℕ) → k < length digits → dec k (rest / 10) ++ drop k (set digits k (48 + rest % 10)) ≡ dec (k + 1) rest ++ drop (k + 1) digits
unfolding dec
dec_written k rest digits inside = grind (arith, common_steps, drop-set, append_assoc)

-- ---- the test for a digit

is_digit_from_value : (c : ℕ) → digit_value c < 10 → is_ascii_digit c ≡ true
is_digit_from_value c small = grind (arith, common_steps, digit_from_value, and_from, le-leb)

pub value_from_is_digit : (c : ℕ) → is_ascii_digit c ≡ true → digit_value c < 10
value_from_is_digit c e = grind (arith, common_steps, and_parts, leb-true, digit_value_digit)

pub AllDigits-from_test : (bytes : List ℕ) → list_all is_ascii_digit bytes ≡ true → AllDigits 10 bytes
AllDigits-from_test [] e = tt
AllDigits-from_test (c ∷ cs) e =
    let both = and_parts (is_ascii_digit c) (list_all is_ascii_digit cs) e in
    (value_from_is_digit c both.0, AllDigits-from_test cs both.1)

pub test_from_AllDigits : (bytes : List ℕ) → AllDigits 10 bytes → list_all is_ascii_digit bytes ≡ true
test_from_AllDigits [] all = refl
test_from_AllDigits (c ∷ cs) all = and_from _ _ (is_digit_from_value c all.0) (test_from_AllDigits cs all.1)
