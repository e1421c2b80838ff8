use Rattle.gts_heading.proofs.Cited.{append_assoc, arith, append-nil, length-take-le, common_steps}
use Rattle.gts_heading.specs.Heading.{heading_text}
use Rattle.gts_heading.proofs.heading.Heading.write.Goals as goal

pub returns-in-None-clause-written : goal.returns-in-None-clause-written
unfolding heading_text
returns-in-None-clause-written c = rw (c.in-None.is, append-nil) cc

pub returns-in-Some-clause-written : goal.returns-in-Some-clause-written
unfolding heading_text
returns-in-Some-clause-written c = rw c.in-Some.is (grind (arith, append_assoc))

pub returns-in-None-clause-length : goal.returns-in-None-clause-length
returns-in-None-clause-length c = grind (arith, common_steps, length-take-le, returns-in-None-clause-written)

pub returns-in-Some-clause-length : goal.returns-in-Some-clause-length
returns-in-Some-clause-length c = grind (arith, common_steps, length-take-le, common_steps, returns-in-Some-clause-written)
