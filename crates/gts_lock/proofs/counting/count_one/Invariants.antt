use Rattle.gts_lock.proofs.counting.count_one.Given as goal

abbrev pub ghost-leave_with : goal.ghost-leave_with
ghost-leave_with g a = a.number
