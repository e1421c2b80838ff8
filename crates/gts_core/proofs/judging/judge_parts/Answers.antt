use Rattle.gts_core.proofs.WeighLemmas.{asks_found}
use Rattle.gts_core.proofs.judging.judge_parts.Goals as goal
use Rattle.gts_core.proofs.Cited.{common_steps, arith}

pub returns-then-is_request-clause-found : goal.returns-then-is_request-clause-found
returns-then-is_request-clause-found c = grind (arith, common_steps, asks_found)
