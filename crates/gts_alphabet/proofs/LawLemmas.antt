-- What the laws of src/laws.rt say, for the proofs of crates above: each is an answer of one of them.
pub use Rattle.gts_alphabet.proofs.DigitsLemmas.{length-dec, AllDigits-dec, digits_value-dec, dec-digits_value, AllDigits-from_test, test_from_AllDigits, value_from_is_digit}
