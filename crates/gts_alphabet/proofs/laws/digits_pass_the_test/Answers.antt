use Rattle.gts_alphabet.proofs.DigitsLemmas.{AllDigits-from_test, test_from_AllDigits}
use Rattle.gts_alphabet.proofs.laws.digits_pass_the_test.Goals as goal

pub returns : goal.returns
returns c bytes = (AllDigits-from_test bytes, test_from_AllDigits bytes)
