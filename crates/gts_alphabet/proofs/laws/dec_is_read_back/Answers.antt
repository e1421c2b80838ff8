use Rattle.gts_alphabet.proofs.DigitsLemmas.{AllDigits-dec, length-dec, digits_value-dec}
use Rattle.gts_alphabet.proofs.laws.dec_is_read_back.Goals as goal

pub returns-clause-digits : goal.returns-clause-digits
returns-clause-digits c = AllDigits-dec

pub returns-clause-length : goal.returns-clause-length
returns-clause-length c = length-dec

pub returns-clause-value : goal.returns-clause-value
returns-clause-value c = digits_value-dec
