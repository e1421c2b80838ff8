use Rattle.gts_generate.proofs.Cited.{arith, sum_by-append, common_steps}
use Rattle.gts_generate.proofs.SaidLemmas.{on_circuit, on_circuits, sayings-more, sayings-all}
use Rattle.gts_generate.proofs.said.said_on_circuits.Goals as goal

pub returns-in_default-clause-bytes : goal.returns-in_default-clause-bytes
returns-in_default-clause-bytes c = grind (arith, common_steps, sayings-all)

pub returns-in_default-clause-frames : goal.returns-in_default-clause-frames
returns-in_default-clause-frames c = grind (arith, common_steps, sayings-all)

pub returns-in_default-clause-digest : goal.returns-in_default-clause-digest
returns-in_default-clause-digest c = grind (arith, common_steps, on_circuits, sayings-all)

pub loop-k-preserved : goal.loop-k-preserved
loop-k-preserved c = grind (arith, common_steps, on_circuit, on_circuits, sayings-more, sum_by-append)
