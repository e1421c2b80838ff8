use Rattle.gts_circuits.proofs.Cited.{List, take, AddsFor, Entry, Feeding}
use Rattle.gts_circuits.proofs.hall.turns.feed.Given as goal

abbrev pub ghosts-leave : goal.ghosts-leave
ghosts-leave g a = record {
  fact = λ (more : List Entry).
      let fed : Feeding = record {
        c = a._done.now.0;
        begun = take a._done.now.3 a._done.now.2.now;
        step = a._done.now.4;
        start = g.start;
        taken = take a._done.now.5.taken a._done.now.2.now;
        message = a._done.now.1.now.message;
        end = a._done.now.5.end;
      } in
      AddsFor g.P.Station g.B.Began.beginning fed a.turn.pass.seen a.turn.value.engine more;
}
