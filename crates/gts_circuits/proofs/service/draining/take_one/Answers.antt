use Rattle.gts_circuits.proofs.Cited.{[], sym, append-nil, err_from_is_err_and}
use Rattle.gts_circuits.proofs.ServeTakingLemmas.{once_failed, once_given}
use Rattle.gts_circuits.proofs.service.draining.take_one.Goals as goal

pub returns-in_err-outcome-clause-taken : goal.returns-in_err-outcome-clause-taken
returns-in_err-outcome-clause-taken g c =
    let e = c.in_err-outcome in
    let p = err_from_is_err_and c.from_residual.result c.from_residual.ensures.1 in (
      [],
      rw (p.1, p.2) (once_failed g.P.Station g.B.Began.beginning c.args.c
          c.take.new.out c.args.housed.now.engine c.take.new.self.engine e.field-0.0 e.ensures.adds e.ensures.silent e.ensures.no_memory),
      (λ observed. sym (append-nil (g.K.Sink.written c.args.sink.now))),
    )

pub returns-clause-taken : goal.returns-clause-taken
returns-clause-taken g c =
    let o = c.in_ok-outcome in
    let w = c.write_given.ensures.wrote in (
      w.0,
      once_given g.P.Station g.B.Began.beginning c.args.c
          c.take.new.out c.args.housed.now.engine c.take.new.self.engine o.outcome w.0 c.write_given.result o.ensures.adds w.1,
      w.2,
    )
