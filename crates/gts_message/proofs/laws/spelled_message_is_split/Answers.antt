use Rattle.gts_message.proofs.LawLemmas.{split_again, body_again}
use Rattle.gts_message.proofs.laws.spelled_message_is_split.Goals as goal

pub returns-clause-message : goal.returns-clause-message
returns-clause-message c = split_again

pub returns-clause-body : goal.returns-clause-body
returns-clause-body c body text h is = body_again body h text is
