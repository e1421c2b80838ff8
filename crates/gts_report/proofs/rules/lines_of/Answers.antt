use Rattle.gts_report.proofs.Cited.{◌≡◌, ◌+◌, ℕ, List, [], ◌∷◌, ◌++◌, length, map, take, flat_map, sym, ap, ◌∙◌, take_more, map-append, append-nil, flat_map-append, Rule, RuleRow, rule_change, rule_of_row}
use Rattle.gts_report.proofs.rules.lines_of.Goals as goal

pub loop-rule-preserved : goal.loop-rule-preserved
loop-rule-preserved c =
    let line_of : Rule → List ℕ = rule_change c.args.word.now c.args.directory.now c.args.other.now.rules in
    let rule_of : RuleRow → Rule = rule_of_row (length c.args.directory.now.circuits) in
    let lines : List RuleRow → List ℕ = λ rows. flat_map line_of (map rule_of rows) in
    let rows : List RuleRow = c.args.rules.now in
    let i : ℕ = c.loop-rule.rule-index in
    let row : RuleRow = c.rule-item.result in
    let front = take i rows in
    let more : take (i + 1) rows ≡ front ++ row ∷ [] = take_more rows i row c.loop-rule-test.true ∙ ap (λ (r : RuleRow). front ++ r ∷ []) (sym c.rule-item.is) in
    let said : c.bytes.result.now ≡ line_of (rule_of row) = c.bytes.ensures ∙ c.in_ok-line.ensures c.args.other.now c.rules-others.ensures in
    let all : lines (take (i + 1) rows) ≡ lines front ++ line_of (rule_of row) =
    ap lines more ∙ ap (flat_map line_of) (map-append rule_of front (row ∷ [])) ∙ flat_map-append line_of (map rule_of front) (rule_of row ∷ [])
    ∙ ap (λ (l : List ℕ). lines front ++ l) (append-nil (line_of (rule_of row))) in
    c.in_ok-add.ensures.ok ∙ ap (λ (l : List ℕ). l ++ c.bytes.result.now) c.loop-rule.invariant ∙ ap (λ (l : List ℕ). lines front ++ l) said ∙ sym all
