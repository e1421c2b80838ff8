use Rattle.gts_inspect.proofs.Cited.{◌≡◌, ◌==◌, take, bit_at, list_any}
use Rattle.gts_inspect.proofs.rules.is_named.Given as goal

abbrev pub invariant-loop-rule : goal.invariant-loop-rule
invariant-loop-rule l = l.named ≡ list_any (λ rule. bit_at rule.to l.fn.circuit == 1) (take l.rule-index l.rules)
