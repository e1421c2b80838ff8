use Rattle.gts_heading.proofs.HeadingLemmas.{bare_heading, bare_spelled, bare_only}
use Rattle.gts_heading.proofs.heading.Heading.read_bare.Goals as goal

pub returns-clause-heading : goal.returns-clause-heading
returns-clause-heading c = bare_heading c.args.bytes.now c.bare_with_length.result c.bare_with_length.ensures.exact

pub returns-clause-spelled : goal.returns-clause-spelled
returns-clause-spelled c = bare_spelled c.args.bytes.now c.bare_with_length.result c.bare_with_length.ensures.exact

pub returns-clause-only : goal.returns-clause-only
returns-clause-only c = bare_only c.args.bytes.now c.bare_with_length.result c.bare_with_length.ensures.length c.bare_with_length.ensures.exact
