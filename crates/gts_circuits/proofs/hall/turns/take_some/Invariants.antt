use Rattle.gts_circuits.proofs.Cited.{List, Entry, LeavesTaken, all_of, entries, frames_of}
use Rattle.gts_circuits.proofs.hall.turns.take_some.Given as goal

abbrev pub ghosts-leave : goal.ghosts-leave
ghosts-leave g a = record {
  fact = λ (more : List Entry).
      LeavesTaken g.P.Station g.B.Began.beginning (all_of (entries a.turn.pass.seen))
      a._done.now.0 (frames_of a._done.now.1.now.frames) a._done.now.2 a.turn.value.engine more;
}
