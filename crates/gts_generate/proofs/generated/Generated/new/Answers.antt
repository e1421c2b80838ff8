use Rattle.gts_generate.proofs.DayLemmas.{pieces-all}
use Rattle.gts_generate.proofs.generated.Generated.new.Goals as goal

pub returns : goal.returns
returns c = rw c.new.ensures (pieces-all c.args.count)
