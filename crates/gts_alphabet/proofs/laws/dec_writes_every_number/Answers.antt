use Rattle.gts_alphabet.proofs.DigitsLemmas.{dec-digits_value}
use Rattle.gts_alphabet.proofs.laws.dec_writes_every_number.Goals as goal

pub returns : goal.returns
returns c = dec-digits_value
