use Rattle.gts_message.proofs.LawLemmas.{fault-message, message_from_fault}
use Rattle.gts_message.proofs.laws.messages_have_no_fault.Goals as goal

pub returns-clause-message : goal.returns-clause-message
returns-clause-message c = fault-message

pub returns-clause-fault : goal.returns-clause-fault
returns-clause-fault c = message_from_fault
