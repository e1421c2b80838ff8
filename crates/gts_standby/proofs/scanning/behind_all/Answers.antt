use Rattle.gts_standby.proofs.Cited.{ℕ, ◌∙◌, arith, common_steps}
use Rattle.gts_standby.specs.Taking as feeds
use Rattle.gts_standby.proofs.ScanLemmas.{all_on, all_end, all_done, reaches_err}
use Rattle.gts_standby.proofs.scanning.behind_all.Goals as goal

pub loop-left-preserved : goal.loop-left-preserved
loop-left-preserved g c =
    let inv = c.loop-left.invariant in
    record {
      gone = λ observed fed read. (c.in_ok-at.ensures.reached observed fed (inv.gone observed fed read)).1;
      same = λ observed fed read.
          inv.same observed fed read
          ∙ all_on (feeds.behind_one c.args.listed c.args.limit fed) c.loop-left.left c.loop-left.at c.in_ok-at.at (omega (arith, c.loop-left-test.true))
          (c.in_ok-at.ensures.reached observed fed (inv.gone observed fed read)).0;
      place = c.in_ok-at.ensures.there.1;
      there = c.in_ok-at.ensures.there.0;
      sound = c.in_ok-at.ensures.cause.sound tt ∙ inv.sound;
    }

pub returns-in_err-at-clause-reached : goal.returns-in_err-at-clause-reached
returns-in_err-at-clause-reached g c = λ observed fed read.
    let inv = c.loop-left.invariant in
    let end = c.in_err-at.field-0.0 in
    let one : ℕ → feeds.Reached = feeds.behind_one c.args.listed c.args.limit fed in
    reaches_err c.from_residual.result end (feeds.behind_all one c.loop-left.left c.loop-left.at) (feeds.behind_all one c.args.count c.args.at) fed
    c.behind_one.new.ahead (g.S.Source.left c.behind_one.new.source) c.from_residual.ensures.1 (inv.same observed fed read)
    (all_end end one c.loop-left.left c.loop-left.at fed _ _ (omega (arith, c.loop-left-test.true)) (c.in_err-at.ensures.reached observed fed (inv.gone observed fed read)))

pub returns-clause-reached : goal.returns-clause-reached
returns-clause-reached g c = grind (arith, common_steps, all_done)
