use Rattle.gts_inspect.proofs.Cited.{◌++◌, ℕ, List, length, told, ap, ◌∙◌, of_rule, rule_of_row, RuleRow}
use Rattle.gts_inspect.specs.declared.finding.Finding.{Finding}
use Rattle.gts_directory.specs.Directory as directory
use Rattle.gts_inspect.proofs.OrderLemmas.{rows_more}
use Rattle.gts_inspect.proofs.inspection.add_rules.Goals as goal

pub loop-rule-preserved : goal.loop-rule-preserved
loop-rule-preserved c =
    let d = c.args.directory.now in
    let rows : List RuleRow = c.args.rules.now in
    let k : ℕ = c.loop-rule.rule in
    let row : RuleRow = c.index-rules-rule.result in
    let found : List Finding = c.args.found.now.items in
    let rule_of : RuleRow → directory.Rule = rule_of_row (length d.circuits) in
    c.in_ok-add_told.ensures ∙ ap (λ (l : List Finding). l ++ told c.of_rule.result) c.loop-rule.invariant
    ∙ rows_more rule_of (of_rule d) rows k row c.of_rule.result found row c.loop-rule-test.true c.index-rules-rule.is c.of_rule.ensures
