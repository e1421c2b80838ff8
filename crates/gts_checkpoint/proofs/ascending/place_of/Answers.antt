use Rattle.gts_checkpoint.proofs.Cited.{◌+◌, ◌-◌, ◌/◌, arith, slice_get-get_or, positions, has_not, common_steps}
use Rattle.gts_checkpoint.proofs.AscendingLemmas.{position-at, positions-length, below-half, above-half, found_none}
use Rattle.gts_checkpoint.proofs.ascending.place_of.Goals as goal

pub returns-then-here-position-clause-found : goal.returns-then-here-position-clause-found
returns-then-here-position-clause-found c = grind (arith, common_steps, position-at, slice_get-get_or, positions-length)

pub loop-low-preserved-then-here-position-2 : goal.loop-low-preserved-then-here-position-2
loop-low-preserved-then-here-position-2 c =
    let bs = c.args.bulletins.now in
    let m = c.loop-low.low + (c.loop-low.high - c.loop-low.low) / 2 in
    let here = position-at bs m c.index-bulletins-middle.result (omega arith) in
    record {
      order = omega arith;
      within = omega arith;
      below = below-half (positions bs) c.args.position m c.requires (omega (arith, positions-length bs)) (omega arith);
      above = c.loop-low.invariant.above;
    }

pub loop-low-preserved : goal.loop-low-preserved
loop-low-preserved c =
    let bs = c.args.bulletins.now in
    let m = c.loop-low.low + (c.loop-low.high - c.loop-low.low) / 2 in
    let here = position-at bs m c.index-bulletins-middle.result (omega arith) in
    record {
      order = omega arith;
      within = omega arith;
      below = c.loop-low.invariant.below;
      above = λ k t l. (above-half (positions bs) c.args.position m c.requires (omega arith)) k t (omega (arith, positions-length bs));
    }

pub returns-clause-none : goal.returns-clause-none
returns-clause-none c = grind (arith, common_steps, has_not, found_none, positions-length)
