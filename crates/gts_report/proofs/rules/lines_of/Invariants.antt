use Rattle.gts_report.proofs.Cited.{◌≡◌, length, map, take, flat_map, rule_change, rule_of_row}
use Rattle.gts_report.proofs.rules.lines_of.Given as goal

abbrev pub invariant-loop-rule : goal.invariant-loop-rule
invariant-loop-rule l =
    l.lines
    ≡ flat_map (rule_change l.fn.word l.fn.directory l.fn.other.rules) (map (rule_of_row (length l.fn.directory.circuits)) (take l.rule-index l.rules))
