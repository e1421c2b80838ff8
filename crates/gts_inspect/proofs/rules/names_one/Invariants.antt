use Rattle.gts_inspect.proofs.Cited.{◌≡◌, length, list_any, names, range_with_len, rule_of_row}
use Rattle.gts_inspect.proofs.rules.names_one.Given as goal

abbrev pub invariant-loop-circuit : goal.invariant-loop-circuit
invariant-loop-circuit l = l.one ≡ list_any (λ c. names c (rule_of_row (length l.directory.circuits) l.rule)) (range_with_len 0 l.circuit)
