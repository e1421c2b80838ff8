use Rattle.gts_message.proofs.LawLemmas.{split_takes, body_is_spelled}
use Rattle.gts_message.proofs.laws.split_message_is_spelled.Goals as goal

pub returns-clause-message : goal.returns-clause-message
returns-clause-message c = split_takes

pub returns-clause-body : goal.returns-clause-body
returns-clause-body c = body_is_spelled
