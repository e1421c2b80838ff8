use Rattle.gts_circuits.proofs.Cited.{LeavesFrame, Taken, common_steps, arith}
use Rattle.gts_circuits.proofs.StandingLemmas.{take_takes_none, takes_accept_nothing, adds, leaves}
use Rattle.gts_circuits.proofs.hall.housed.Housed.take.Goals as goal

pub returns-clause-adds : goal.returns-clause-adds
returns-clause-adds g c = λ entries stands.
    adds g.P.Station g.B.Began.beginning entries (Taken c.args.c) (LeavesFrame g.B.Began.beginning.origin.directory c.args.c c.take.new.out)
    c.take.result c.args.self.now.engine c.take.new.self c.take.ensures.called c.take.ensures.cause
    (leaves g.P.Station g.B.Began.beginning entries c.args.c c.take.new.out c.take.result c.args.self.now.engine c.take.new.self c.take.ensures.called c.take.ensures.frame c.take.ensures.stopped stands)
    (λ makes d s accepted. takes_accept_nothing g.P.Station g.B.Began.beginning d s c.args.c accepted) stands

pub returns-clause-no_memory : goal.returns-clause-no_memory
returns-clause-no_memory g c = λ entries stands.
    take_takes_none g.P.Station g.B.Began.beginning entries c.args.c
    c.take.result c.args.self.now.engine c.take.new.self c.take.ensures.called stands

pub returns-clause-silent : goal.returns-clause-silent
returns-clause-silent g c = grind (arith, common_steps)
