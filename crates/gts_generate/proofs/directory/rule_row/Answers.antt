use Rattle.gts_generate.proofs.Cited.{rules}
use Rattle.gts_alphabet.specs.Digits.{dec}
use Rattle.gts_generate.proofs.CentreLemmas.{circuits_of_rule}
use Rattle.gts_generate.proofs.directory.rule_row.Goals as goal

pub returns : goal.returns
unfolding dec
returns c = rw (c.with-2.ensures, c.with.ensures, circuits_of_rule c.args.j) (search rules)
