use Rattle.gts_core.proofs.Cited.{◌≡◌, None, arith, cases_lt, stored_at, common_steps}
use Rattle.gts_core.proofs.entering.leave.Goals as goal
use Rattle.gts_core.proofs.entering.leave.Goals.{Else-is_some}

pub release-requires : goal.release-requires
release-requires c = grind (arith, common_steps, cases_lt)

-- nothing is stored there
gone : (c : Else-is_some) → stored_at c.args.store.now c.args.position ≡ None
gone c = grind (arith, common_steps)

pub returns-else-is_some : goal.returns-else-is_some
returns-else-is_some c = grind (arith, common_steps, gone)
