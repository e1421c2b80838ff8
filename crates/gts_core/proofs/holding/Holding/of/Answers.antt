use Rattle.gts_core.proofs.Cited.{rules, ◌≡◌, ◌++◌, List, ℕ, IsNonDecreasingBy-from_sort, CircuitNeed, circuit_need_of}
use Rattle.gts_core.proofs.HoldingLemmas.{sorted_holds}
use Rattle.gts_core.proofs.holding.Holding.of.Goals as goal

pub invariant_of-result : goal.invariant_of-result
invariant_of-result c =
    let n : CircuitNeed = circuit_need_of c.args.circuit.now in
    let all : List ℕ = c.extend_from_slice.new.self.items in
    let is : all ≡ n.waiting ++ n.kept = search rules in
    record {
      order = IsNonDecreasingBy-from_sort (λ x. x) c.sort_unstable.new.self.items c.sort_unstable.ensures.sorted;
      each = sorted_holds n all c.sort_unstable.new.self.items is c.sort_unstable.ensures.permutation;
    }
