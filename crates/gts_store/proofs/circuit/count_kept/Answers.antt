use Rattle.gts_store.proofs.Cited.{arith, length-map}
use Rattle.gts_store.specs.Entries.{position_in}
use Rattle.gts_store.proofs.circuit.count_kept.Goals as goal

pub returns : goal.returns
returns c = omega (arith, length-map c.args.circuit.now.kept.items position_in)
