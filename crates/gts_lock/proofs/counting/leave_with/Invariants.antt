use Rattle.gts_lock.proofs.counting.leave_with.Given as goal

abbrev pub ghost-leave : goal.ghost-leave
ghost-leave g a = g.entry
