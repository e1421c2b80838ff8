use Rattle.gts_inspect.proofs.Cited.{◌≡◌, ℕ, List, length, map, take, ap, refl, sym, ◌∙◌, take-map, rule_covered, rule_of_row, rule_twice}
use Rattle.gts_directory.specs.Directory as directory
use Rattle.gts_inspect.proofs.inspection.of_rule.Goals as goal

pub returns : goal.returns
returns c =
    let d = c.args.directory.now in
    let n : ℕ = length d.circuits in
    let r : ℕ = c.args.rule in
    let rule : directory.Rule = rule_of_row n c.args.row.now in
    let all : map (rule_of_row n) c.args.rules.now ≡ d.rules = c.requires.rules.same in
    let before : map (rule_of_row n) (take r c.args.rules.now) ≡ take r d.rules =
    sym (take-map (rule_of_row n) r c.args.rules.now) ∙ ap (take r) all in
    let twice = c.rule_twice.ensures ∙ ap (λ (l : List directory.Rule). rule_twice n l r rule) before in
    let covered = c.rule_covered.ensures ∙ ap (λ (l : List directory.Rule). rule_covered n l r rule) all in
    rw (c.no_circuit.ensures, twice, covered) refl
