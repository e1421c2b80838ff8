use Rattle.gts_recovery.proofs.TakenOverLemmas.{held-over, sound-over, over-restarted, due-over}
use Rattle.gts_recovery.proofs.taken_over.a_need_goes_on_under_a_new_directory.Goals as goal

pub returns-clause-held : goal.returns-clause-held
returns-clause-held c = held-over

pub returns-clause-sound : goal.returns-clause-sound
returns-clause-sound c = sound-over

pub returns-clause-restarted : goal.returns-clause-restarted
returns-clause-restarted c = over-restarted

pub returns-clause-due : goal.returns-clause-due
returns-clause-due c = due-over
