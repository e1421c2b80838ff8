use Rattle.gts_directory.proofs.Cited.{arith}
use Rattle.gts_directory.proofs.CellLemmas.{IsTable-more}
use Rattle.gts_directory.proofs.table.make_room.Goals as goal

pub returns-in_ok-push-clause-same : goal.returns-in_ok-push-clause-same
returns-in_ok-push-clause-same c = rw c.in_ok-push.ensures.items (IsTable-more c.args.rows.now _ c.requires (omega arith))
