use Rattle.gts_inspect.proofs.Cited.{◌≡◌, ◌++◌, length, map, take, in_order, of_rule, rule_of_row}
use Rattle.gts_inspect.proofs.inspection.add_rules.Given as goal

abbrev pub invariant-loop-rule : goal.invariant-loop-rule
invariant-loop-rule l =
    l.found.items
    ≡ l.initial.found.items ++ in_order (of_rule l.directory) 0 (map (rule_of_row (length l.directory.circuits)) (take l.rule l.rules))
