use Rattle.gts_sender.proofs.Cited.{[], sym, append-nil, err_from_is_err_and, common_steps, arith}
use Rattle.gts_calls.specs.Given.{frames_of}
use Rattle.gts_sender.proofs.DrawLemmas.{turn_sent, turn_broke, turn_failed}
use Rattle.gts_sender.proofs.sending.send_some.Goals as goal

pub returns-in_err-more-clause-tried : goal.returns-in_err-more-clause-tried
returns-in_err-more-clause-tried g c =
    let e = c.in_err-more in
    let now = g.D.Desk.seen c.take_some.new.self in (
      [],
      (λ first sent so_far.
          let p = err_from_is_err_and c.from_residual.result c.from_residual.ensures.1 in
          rw (p.1, p.2) (turn_failed c.args.c (g.D.Desk.seen c.args.desk.now) now (frames_of c.take_some.new.given.frames) e.field-0.0 e.ensures first sent so_far)),
      (λ observed. sym (append-nil (g.K.Sink.written c.args.sink.now))),
    )

pub returns-in_err-write_frames-clause-tried : goal.returns-in_err-write_frames-clause-tried
returns-in_err-write_frames-clause-tried g c = grind (arith, common_steps, err_from_is_err_and, turn_broke)

pub returns-clause-tried : goal.returns-clause-tried
returns-clause-tried g c = grind (arith, common_steps, turn_sent)
