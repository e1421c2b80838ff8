use Rattle.gts_circuits.proofs.Cited.{param, param_send, arg_send, no, named, arith, common_steps}
use Rattle.gts_circuits.proofs.CrossingLemmas.{worker_send}
use Rattle.gts_circuits.proofs.workers.working.work_all.Goals as goal

pub in_halves-requires-send-T : goal.in_halves-requires-send-T
in_halves-requires-send-T g c κs within =
    let b = c.type_bounds in
    param_send 1 _ (arg_send _ no _ (worker_send (record { mir = named 6; lft = _ }) (param 1 g.row.P) (param 2 g.row.B) (param 3 g.row.S) (param 4 g.row.K)
    g.P.Station g.B.Began g.S.Source g.K.Sink b.send-P b.send-S b.send-K))

pub returns : goal.returns
returns g c i d inside = let at = (c.in_halves.ensures.each i d inside).1 in grind (arith, common_steps)
