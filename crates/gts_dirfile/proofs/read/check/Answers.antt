use Rattle.gts_dirfile.proofs.Cited.{List, sym, subst, AreRulesOf, RuleRow}
use Rattle.gts_dirfile.proofs.RuleLemmas.{rules_checked}
use Rattle.gts_dirfile.proofs.read.check.Goals as goal

pub invariant_of-result : goal.invariant_of-result
invariant_of-result c =
    subst (λ (rows : List RuleRow). AreRulesOf rows c.in_ok-directory.directory) (sym c.requires) (rules_checked c.args.rows c.in_ok-directory.directory c.in_ok-directory.ensures)
