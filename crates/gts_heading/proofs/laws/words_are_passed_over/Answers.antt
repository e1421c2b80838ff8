use Rattle.gts_heading.proofs.LawLemmas.{word_takes, word_again}
use Rattle.gts_heading.proofs.laws.words_are_passed_over.Goals as goal

pub returns-clause-read : goal.returns-clause-read
returns-clause-read c word bytes rest field = word_takes word field bytes rest

pub returns-clause-spelled : goal.returns-clause-spelled
returns-clause-spelled c word rest field = word_again word field rest
