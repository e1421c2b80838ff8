use Rattle.gts_message.proofs.SplitLemmas.{message_found, message_only}
use Rattle.gts_message.proofs.message.Message.split.Goals as goal

pub returns-clause-found : goal.returns-clause-found
returns-clause-found c = message_found c.args.message.now c.parts.result c.parts.ensures

pub returns-clause-only : goal.returns-clause-only
returns-clause-only c = message_only c.args.message.now c.parts.result c.parts.ensures
