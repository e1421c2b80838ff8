use Rattle.gts_generate.proofs.CentreLemmas.{rule-added}
use Rattle.gts_generate.proofs.directory.add_rules.Goals as goal
use Rattle.gts_generate.proofs.Cited.{common_steps, arith}

pub loop-j-preserved : goal.loop-j-preserved
loop-j-preserved c = grind (arith, common_steps, rule-added)
