use Rattle.gts_lock.specs.History.{entries}
use Rattle.gts_circuits.proofs.TurningLemmas.{stood}
use Rattle.gts_circuits.proofs.hall.turns.leave.Goals as goal

pub leave_some-requires : goal.leave_some-requires
leave_some-requires g c =
    let v = c.requires.value in
    let s = stood g.P.Station g.B.Began.beginning (entries c.args.turn.pass.seen) v.0 c.args.turn.value.engine v.2 in
    (v.0, v.1, (s, c.requires.mode))
