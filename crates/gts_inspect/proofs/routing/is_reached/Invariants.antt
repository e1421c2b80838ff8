use Rattle.gts_inspect.proofs.Cited.{◌≡◌, ◌&&◌, ◌==◌, take, bit_at, fields_of, list_any, matches}
use Rattle.gts_inspect.proofs.routing.is_reached.Given as goal

abbrev pub invariant-loop-rule : goal.invariant-loop-rule
invariant-loop-rule l =
    l.reached ≡ list_any (λ rule. matches rule.heading (fields_of l.heading) && (bit_at rule.to l.fn.circuit == 1)) (take l.rule-index l.rules)
