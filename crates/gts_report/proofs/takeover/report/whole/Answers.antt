use Rattle.gts_report.proofs.Cited.{ℕ, List, ◌++◌, ap, ◌∙◌, Directory, beside_rules, both_rule_lines, need_of}
use Rattle.gts_report.proofs.takeover.report.whole.Goals as goal

pub returns : goal.returns
returns c =
    let old = c.args.old.now in
    let new = c.args.new.now in
    let n = need_of c.args.trial.now.need in
    c.in_ok-add.ensures.ok ∙ ap (λ (l : List ℕ). l ++ c.bytes.result.now) c.in_ok-text.ensures
    ∙ ap (λ (l : List ℕ). both_rule_lines new old ++ l)
    (c.bytes.ensures ∙ c.in_ok-rest.ensures ∙ ap (λ (d : Directory). beside_rules c.directory-2.result.now d n) c.directory.ensures
    ∙ ap (λ (d : Directory). beside_rules d old n) c.directory-2.ensures)
