use Rattle.gts_checkpoint.proofs.Cited.{arith, take_all, IsNonDecreasingBy-from_sort, common_steps}
use Rattle.gts_checkpoint.proofs.SoundLemmas.{has-sorted}
use Rattle.gts_checkpoint.proofs.sound.held_positions.Goals as goal

pub returns-clause-order : goal.returns-clause-order
returns-clause-order c = IsNonDecreasingBy-from_sort (λ x. x) c.sort_unstable.new.self.items c.sort_unstable.ensures.sorted

pub returns-clause-each : goal.returns-clause-each
returns-clause-each c = grind (arith, common_steps, has-sorted, take_all)
