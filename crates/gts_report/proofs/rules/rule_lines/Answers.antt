use Rattle.gts_report.proofs.Cited.{◌≡◌, List, ℕ, sym, subst, IfOk, AreRulesOf, Directory, rule_lines}
use Rattle.gts_report.proofs.rules.rule_lines.Goals as goal

pub lines_of-requires : goal.lines_of-requires
lines_of-requires c = subst (λ (d : Directory). AreRulesOf c.rules.result.now d) (sym c.directory.ensures) c.rules.ensures

pub returns : goal.returns
returns c =
    subst (λ (d : Directory). IfOk c.lines_of.result (λ (lines : List ℕ). lines ≡ rule_lines c.args.word.now d c.args.other.now.rules)) c.directory.ensures c.lines_of.ensures
