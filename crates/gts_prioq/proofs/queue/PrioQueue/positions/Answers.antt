use Rattle.gts_prioq.proofs.Cited.{◌≡◌, ℕ, List, [], ◌∷◌, ◌++◌, flat_map, map, refl, ap, IfOk-weaker, VecDeque, items_of, common_steps, arith}
use Rattle.std.proofs.Common.{Global}
use Rattle.gts_prioq.proofs.queue.PrioQueue.positions.Goals as goal

flat_levels : (queues : List (VecDeque ℕ Global)) → flat_map items_of queues ≡ flat_map (λ (level : List ℕ). level) (map items_of queues)
flat_levels [] = refl
flat_levels (queue ∷ queues) = ap (λ (ps : List ℕ). items_of queue ++ ps) (flat_levels queues)

pub returns : goal.returns
returns c = grind (arith, common_steps, IfOk-weaker, flat_levels)
