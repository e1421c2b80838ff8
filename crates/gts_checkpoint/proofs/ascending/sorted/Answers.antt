use Rattle.gts_checkpoint.proofs.Cited.{IsNonDecreasingBy-from_sort}
use Rattle.gts_checkpoint.proofs.ascending.sorted.Goals as goal

pub returns-clause-order : goal.returns-clause-order
returns-clause-order c = IsNonDecreasingBy-from_sort (λ x. x) c.sort_unstable.new.self.items c.sort_unstable.ensures.sorted
