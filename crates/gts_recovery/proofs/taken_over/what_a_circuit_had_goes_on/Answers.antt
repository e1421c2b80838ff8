use Rattle.gts_recovery.proofs.TakenOverLemmas.{waiting-over, draws-over, drawn-same, drawn-other, owed-over}
use Rattle.gts_recovery.proofs.taken_over.what_a_circuit_had_goes_on.Goals as goal

pub returns-clause-waiting : goal.returns-clause-waiting
returns-clause-waiting c = waiting-over

pub returns-clause-draws : goal.returns-clause-draws
returns-clause-draws c = draws-over

pub returns-clause-same_digits : goal.returns-clause-same_digits
returns-clause-same_digits c = λ new old n k row next rows. drawn-same new old n k row next rows.before rows.after

pub returns-clause-other_digits : goal.returns-clause-other_digits
returns-clause-other_digits c = λ new old n k row next rows. drawn-other new old n k row next rows.before rows.after

pub returns-clause-unowed : goal.returns-clause-unowed
returns-clause-unowed c = owed-over
