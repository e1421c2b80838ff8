use Rattle.gts_heading.proofs.HeadingLemmas.{line_rest}
use Rattle.gts_heading.proofs.heading.Heading.line_with_length.Goals as goal
use Rattle.gts_heading.proofs.Cited.{common_steps, arith}

-- what the cursor has left is what was not read
pub overflow_sub-result : goal.overflow_sub-result
overflow_sub-result c = grind (arith, common_steps, line_rest)

pub returns-clause-exact : goal.returns-clause-exact
returns-clause-exact c = grind (arith, common_steps, line_rest)
