use Rattle.gts_report.proofs.Cited.{◌≡◌, ◌++◌, circuits_in, names_text}
use Rattle.gts_report.proofs.rules.add_names.Given as goal

abbrev pub invariant-loop-c : goal.invariant-loop-c
invariant-loop-c l = l.text ≡ l.initial.text ++ names_text l.directory (circuits_in l.c l.fn.circuits)
