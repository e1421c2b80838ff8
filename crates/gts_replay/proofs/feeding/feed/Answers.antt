use Rattle.gts_replay.proofs.Cited.{◌≡◌, ◌++◌, ℕ, List, take, length, min, Result, Ok, Err, OnOk, sym, ap, subst, ◌∙◌, arith, is_err, length-take-le, IfOk-at_ok, err_from_is_err_and, AreStill, Feeds, Goes, SettlesFirst, StepFault, SwitchFault, all_done, events_added, held_in, common_steps}
use Rattle.gts_replay.specs.declared.fault.StepFault.TheVariants as step
use Rattle.gts_replay.proofs.GoingLemmas.{mapped_ok, mapped_err}
use Rattle.gts_replay.proofs.FeedingLemmas.{fed_none, fed_piece, fed_settled, breaks_piece}
use Rattle.gts_replay.proofs.StepLemmas.{takes_none, takes_more, takes_at_most, all_small, feeds_all, feeds_unread}
use Rattle.gts_replay.proofs.feeding.feed.Goals as goal

pub loop-count-init : goal.loop-count-init
loop-count-init g c = grind (arith, common_steps, takes_none, fed_none)

pub returns-in_err-count-clause-feeds : goal.returns-in_err-count-clause-feeds
returns-in_err-count-clause-feeds g c =
    let fed = c.loop-count.invariant.fed in
    let fault : StepFault = c.in_err-count.field-0.0 in
    let is : c.next_bytes.result ≡ Err fault = c.in_err-count.was in
    let settles = subst (λ (r : Result ℕ StepFault). SettlesFirst g.W.Switch.meanings r c.loop-count.switch c.next_bytes.new.switch) is c.next_bytes.ensures.settles in
    let p = err_from_is_err_and c.from_residual.result c.from_residual.ensures.1 in
    rw (p.1, p.2)
    (feeds_unread g.W.Switch.meanings g.S.Source.observed c.args.c fault fed.0 c.args.steps.now c.loop-count.steps c.next_bytes.new.steps (g.S.Source.left c.args.capture.now) (g.S.Source.left c.loop-count.capture)
    (g.S.Source.left c.next_bytes.new.capture) c.args.decoder.now c.loop-count.decoder c.args.switch.now c.loop-count.switch c.next_bytes.new.switch fed.1 fed.2 (c.next_bytes.ensures.left (ap is_err is))
    (λ t at e. c.next_bytes.ensures.bad t at (is ∙ ap Err e)) (λ t e. c.next_bytes.ensures.source_fault t (is ∙ ap Err e)) settles)

pub returns-then-count-eq0-clause-feeds : goal.returns-then-count-eq0-clause-feeds
returns-then-count-eq0-clause-feeds g c =
    let fed = c.loop-count.invariant.fed in
    let n : ℕ = c.in_ok-count.count in
    let none : n ≡ 0 = c.if-count-eq0.true in
    let read = c.in_ok-count.ensures in
    let some : min (length c.loop-count.piece) c.loop-count.steps.feed ≡ 0 = read.some none in
    let size : length c.loop-count.piece ≡ length c.args.piece.now = c.loop-count.auto.piece in
    feeds_all g.W.Switch.meanings g.S.Source.observed c.args.c fed.0 c.next_bytes.new.into n c.args.steps.now c.loop-count.steps c.next_bytes.new.steps (g.S.Source.left c.args.capture.now) (g.S.Source.left c.loop-count.capture)
    (g.S.Source.left c.next_bytes.new.capture) c.args.decoder.now c.loop-count.decoder c.args.switch.now c.loop-count.switch c.next_bytes.new.switch none
    (all_small (length c.loop-count.piece) c.loop-count.steps.feed (omega (arith, size, c.requires.piece)) some) fed.1 fed.2 read.told read.passed read.same read.settles

pub returns-in_err-map_err-clause-feeds : goal.returns-in_err-map_err-clause-feeds
returns-in_err-map_err-clause-feeds g c =
    let fed = c.loop-count.invariant.fed in
    let n : ℕ = c.in_ok-count.count in
    let into : List ℕ = c.next_bytes.new.into in
    let piece : List ℕ = take n into in
    let came : c.next_bytes.result ≡ Ok n = c.in_ok-count.was in
    let settled = subst (λ (r : Result ℕ StepFault). SettlesFirst g.W.Switch.meanings r c.loop-count.switch c.next_bytes.new.switch) came c.next_bytes.ensures.settles in
    let fed_now = fed_settled g.W.Switch.meanings c.args.c c.args.decoder.now c.args.switch.now fed.0 c.loop-count.decoder c.loop-count.switch c.next_bytes.new.switch fed.2 settled in
    let passed = IfOk-at_ok _ came c.next_bytes.ensures.passed in
    let long : length piece ≡ n = length-take-le n into (omega (arith, IfOk-at_ok _ came c.next_bytes.ensures.most, c.next_bytes.auto.into)) in
    let m = mapped_err c.feed_piece.result c.map_err.result _ c.in_err-map_err.field-0.0 c.map_err.ensures.cases c.in_err-map_err.was in
    let p = err_from_is_err_and c.from_residual-in_err-map_err.result c.from_residual-in_err-map_err.ensures.1 in
    let broken : Feeds g.W.Switch.meanings g.S.Source.observed c.args.c (Err (step.Switch m.0)) c.args.steps.now c.next_bytes.new.steps (g.S.Source.left c.args.capture.now) (g.S.Source.left c.next_bytes.new.capture)
    c.args.decoder.now c.feed_piece.new.decoder c.args.switch.now c.feed_piece.new.switch = record {
      bytes = fed.0 ++ piece;
      taken = takes_at_most g.S.Source.observed fed.0 piece c.args.steps.now c.loop-count.steps c.next_bytes.new.steps (g.S.Source.left c.args.capture.now) (g.S.Source.left c.loop-count.capture) (g.S.Source.left c.next_bytes.new.capture)
          fed.1 (λ t. IfOk-at_ok _ came (c.next_bytes.ensures.told t)) (omega (arith, long, passed.feed)) (omega (arith, long, passed.at)) passed.within;
      fed = breaks_piece g.W.Switch.meanings c.args.c c.args.decoder.now c.args.switch.now fed.0 piece c.loop-count.decoder c.next_bytes.new.switch c.feed_piece.new.switch m.0 fed_now
          (λ before o first h held stands. subst (λ (r : Result (Unit {0}) SwitchFault). Goes g.W.Switch.meanings o first h (all_done (events_added c.args.c before piece)) r c.feed_piece.new.switch)
          m.1 (c.feed_piece.ensures.goes before o first h held stands));
    } in
    rw (p.1, p.2, m.2) broken

pub loop-count-preserved : goal.loop-count-preserved
loop-count-preserved g c =
    let fed = c.loop-count.invariant.fed in
    let n : ℕ = c.in_ok-count.count in
    let into : List ℕ = c.next_bytes.new.into in
    let piece : List ℕ = take n into in
    let came : c.next_bytes.result ≡ Ok n = c.in_ok-count.was in
    let settled = subst (λ (r : Result ℕ StepFault). SettlesFirst g.W.Switch.meanings r c.loop-count.switch c.next_bytes.new.switch) came c.next_bytes.ensures.settles in
    let fed_now = fed_settled g.W.Switch.meanings c.args.c c.args.decoder.now c.args.switch.now fed.0 c.loop-count.decoder c.loop-count.switch c.next_bytes.new.switch fed.2 settled in
    let dealt : c.feed_piece.result ≡ Ok tt = mapped_ok c.feed_piece.result c.map_err.result _ tt c.map_err.ensures.cases c.in_ok-map_err.was in
    let passed = IfOk-at_ok _ came c.next_bytes.ensures.passed in
    let long : length piece ≡ n = length-take-le n into (omega (arith, IfOk-at_ok _ came c.next_bytes.ensures.most, c.next_bytes.auto.into)) in
    let still = subst (λ (r : Result ℕ StepFault). OnOk r (AreStill (g.W.Switch.disk_faults c.loop-count.switch) (g.W.Switch.disk_faults c.next_bytes.new.switch) (g.W.Switch.say_faults c.loop-count.switch)
    (g.W.Switch.say_faults c.next_bytes.new.switch) (g.S.Source.faults c.loop-count.capture) (g.S.Source.faults c.next_bytes.new.capture))) came c.next_bytes.ensures.cause.sound in
    record {
      fed = (
        fed.0 ++ piece,
        takes_more g.S.Source.observed fed.0 piece c.args.steps.now c.loop-count.steps c.next_bytes.new.steps (g.S.Source.left c.args.capture.now) (g.S.Source.left c.loop-count.capture) (g.S.Source.left c.next_bytes.new.capture)
            fed.1 (λ t. IfOk-at_ok _ came (c.next_bytes.ensures.told t)) (omega (arith, long, passed.feed)) (omega (arith, long, passed.at)) passed.within c.next_bytes.ensures.same,
        fed_piece g.W.Switch.meanings c.args.c c.args.decoder.now c.args.switch.now fed.0 piece c.loop-count.decoder c.feed_piece.new.decoder c.next_bytes.new.switch c.feed_piece.new.switch fed_now
            (λ before is. subst (λ (r : Result (Unit {0}) SwitchFault). OnOk r (c.feed_piece.new.decoder.held ≡ held_in (before ++ piece))) dealt (c.feed_piece.ensures.held before is))
            (λ before o first h held stands. subst (λ (r : Result (Unit {0}) SwitchFault). Goes g.W.Switch.meanings o first h (all_done (events_added c.args.c before piece)) r c.feed_piece.new.switch)
            dealt (c.feed_piece.ensures.goes before o first h held stands)),
      );
      directory = c.feed_piece.ensures.directory ∙ c.next_bytes.ensures.directory ∙ c.loop-count.invariant.directory;
      disk = c.feed_piece.ensures.cause.disk_still (λ e. cc (sym dealt ∙ e)) ∙ still.0 ∙ c.loop-count.invariant.disk;
      say = c.feed_piece.ensures.cause.say_still (λ e. cc (sym dealt ∙ e)) ∙ still.1 ∙ c.loop-count.invariant.say;
      source = still.2 ∙ c.loop-count.invariant.source;
    }
