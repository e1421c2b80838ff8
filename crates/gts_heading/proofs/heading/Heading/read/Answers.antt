use Rattle.gts_heading.proofs.HeadingLemmas.{line_heading, line_spelled, line_only}
use Rattle.gts_heading.proofs.heading.Heading.read.Goals as goal

pub returns-clause-heading : goal.returns-clause-heading
returns-clause-heading c = line_heading c.args.bytes.now c.line_with_length.result c.line_with_length.ensures.exact

pub returns-clause-spelled : goal.returns-clause-spelled
returns-clause-spelled c = line_spelled c.args.bytes.now c.line_with_length.result c.line_with_length.ensures.exact

pub returns-clause-only : goal.returns-clause-only
returns-clause-only c = line_only c.args.bytes.now c.line_with_length.result c.line_with_length.ensures.length c.line_with_length.ensures.exact
