use Rattle.gts_circuits.proofs.Cited.{refl}
use Rattle.gts_circuits.proofs.DrainLemmas.{drains_none, drains_all}
use Rattle.gts_circuits.proofs.service.draining.drain.Goals as goal

pub returns-in_default : goal.returns-in_default
returns-in_default g c = record {
  directory = refl;
  drained = drains_none g.P.Station g.B.Began.beginning
      g.K.Sink c.args.c c.args.line.now c.args.housed.now.engine c.in_default.not-Quiet;
}

pub returns-clause-drained : goal.returns-clause-drained
returns-clause-drained g c =
    let t = c.take_all-line.ensures.taken in
    drains_all g.P.Station g.B.Began.beginning
    g.K.Sink c.args.c c.args.line.now
    (record { sink = c.take_all-line.new.sink; frame = c.take_all-line.new.out; end = c.take_all-line.result })
    t.0 c.args.housed.now.engine c.take_all-line.new.housed.engine c.in-Quiet.is t.1 t.2 c.take_all-line.ensures.cause
