use Rattle.gts_gap.proofs.Cited.{◌≡◌, ◌++◌, ℕ, List, take, length, Err, ◌∙◌, arith, length-take-le, err_from_is_err_and, Bad, CaptureFault, Feeds, SourceFault, takes_none, takes_more, takes_end, common_steps}
use Rattle.gts_gap.proofs.CountingLemmas.{fed_none, fed_piece}
use Rattle.gts_gap.proofs.hearing.feed.Goals as goal

pub loop-count-init : goal.loop-count-init
loop-count-init g c = grind (arith, common_steps, takes_none, fed_none)

pub returns-in_err-count-clause-feeds : goal.returns-in_err-count-clause-feeds
returns-in_err-count-clause-feeds g c =
    let fed = c.loop-count.invariant.fed in
    let F : CaptureFault → Type 0 = λ fault. Feeds g.S.Source.observed c.args.c (Err fault) c.args.steps.now c.bytes.new.self (g.S.Source.left c.args.capture.now) (g.S.Source.left c.bytes.new.source)
    c.args.decoder.now c.loop-count.decoder c.args.table.now c.loop-count.table in
    let go : (fault : CaptureFault) → c.bytes.result ≡ Err fault → F fault = elim [
      | Bad at ↦ λ is. (fed.0, takes_end g.S.Source.observed fed.0 c.args.steps.now c.loop-count.steps (g.S.Source.left c.args.capture.now) (g.S.Source.left c.loop-count.capture) at fed.1 (λ t. c.bytes.ensures.bad t at is))
      | SourceFault ↦ λ is. tt
    ] in
    let p = err_from_is_err_and c.from_residual.result c.from_residual.ensures.1 in
    rw (p.1, p.2) (go c.in_err-count.field-0.0 c.in_err-count.was)

pub loop-count-preserved : goal.loop-count-preserved
loop-count-preserved g c =
    let fed = c.loop-count.invariant.fed in
    let n : ℕ = c.in_ok-count.count in
    let into : List ℕ = c.bytes.new.into in
    let piece : List ℕ = take n into in
    let long : length piece ≡ n = length-take-le n into (omega (arith, c.in_ok-count.ensures.most, c.bytes.auto.into)) in
    record {
      fed = (
        fed.0 ++ piece,
        takes_more g.S.Source.observed fed.0 piece c.args.steps.now c.loop-count.steps c.bytes.new.self (g.S.Source.left c.args.capture.now) (g.S.Source.left c.loop-count.capture) (g.S.Source.left c.bytes.new.source)
            fed.1 c.in_ok-count.ensures.told (omega (arith, long, c.in_ok-count.ensures.passed.feed)) (omega (arith, long, c.in_ok-count.ensures.passed.at)) c.in_ok-count.ensures.passed.within c.bytes.ensures.same,
        fed_piece c.args.c c.args.decoder.now c.args.table.now fed.0 piece c.loop-count.decoder c.feed_piece.new.decoder c.loop-count.table c.feed_piece.new.table fed.2 c.feed_piece.ensures.held c.feed_piece.ensures.adds,
      );
      circuits = c.feed_piece.ensures.circuits ∙ c.loop-count.invariant.circuits;
      sound = c.in_ok-count.ensures.cause.sound ∙ c.loop-count.invariant.sound;
    }
