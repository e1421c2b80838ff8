use Rattle.gts_circuits.proofs.Cited.{◌<◌, length, sym, ap, ◌∙◌, arith, slice_set, some}
use Rattle.gts_circuits.proofs.ItemLemmas.{item_at, set_at, not_set, count_set}
use Rattle.gts_circuits.proofs.DrainLemmas.{drained_more}
use Rattle.gts_circuits.proofs.service.draining.drain_all.Goals as goal

pub loop-c-preserved : goal.loop-c-preserved
loop-c-preserved g c =
    let i = c.loop-c.invariant in
    let xs = c.loop-c.lines.items in
    let k = c.loop-c.c in
    let x = c.index_mut.result.now in
    let y = c.drain.new.line in
    let less : k < length xs = omega (arith, c.loop-c-test.true, i.count, c.args.lines.now.ok.0) in
    record {
      count = count_set xs k y ∙ i.count;
      drained = drained_more g.P.Station g.B.Began.beginning
          g.K.Sink c.args.pass.now.seen xs (slice_set xs k y) k x y c.loop-c.housed.engine c.drain.new.housed.engine
          i.drained c.drain.ensures.drained (item_at xs k x less ∙ ap (λ (z : _). some z) (sym c.index_mut.ensures.value)) (set_at xs k y less) (not_set xs k y);
    }
