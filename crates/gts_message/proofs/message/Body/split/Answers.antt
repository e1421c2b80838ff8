use Rattle.gts_message.proofs.SplitLemmas.{body_found, body_only}
use Rattle.gts_message.proofs.message.Body.split.Goals as goal

pub returns-clause-found : goal.returns-clause-found
returns-clause-found c = body_found c.args.body.now c.parts.result c.parts.ensures

pub returns-clause-only : goal.returns-clause-only
returns-clause-only c = body_only c.args.body.now c.parts.result c.parts.ensures
