use Rattle.gts_inspect.proofs.Cited.{◌≡◌, length, ◌||◌, not, list_all, names, range_with_len, rule_of_row}
use Rattle.gts_inspect.proofs.rules.names_all.Given as goal

abbrev pub invariant-loop-circuit : goal.invariant-loop-circuit
invariant-loop-circuit l =
    l.all ≡ list_all (λ c. not (names c (rule_of_row (length l.directory.circuits) l.rule)) || names c (rule_of_row (length l.directory.circuits) l.by)) (range_with_len 0 l.circuit)
