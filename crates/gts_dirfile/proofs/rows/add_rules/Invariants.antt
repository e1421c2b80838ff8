use Rattle.gts_dirfile.proofs.Cited.{◌≡◌, take, with_rules}
use Rattle.gts_dirfile.proofs.rows.add_rules.Given as goal

abbrev pub invariant-loop-rule : goal.invariant-loop-rule
invariant-loop-rule l = l.rows ≡ with_rules l.initial.rows (take l.rule-index l.rules)
