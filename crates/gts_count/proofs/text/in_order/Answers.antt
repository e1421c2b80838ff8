use Rattle.gts_count.proofs.SortedLemmas.{none_sorted, one_sorted, all_sorted}
use Rattle.gts_count.proofs.text.in_order.Goals as goal
use Rattle.gts_count.proofs.Cited.{common_steps, arith}

pub loop-key-init : goal.loop-key-init
loop-key-init c = grind (arith, common_steps, none_sorted)

pub loop-key-preserved : goal.loop-key-preserved
loop-key-preserved c =
    one_sorted c.args.rows.now c.loop-key.sorted c.insert.new.self c.in-Some.key.now c.in-Some.row.now c.loop-key.key-iterator c.next.new.self c.in-Some.ensures.steps c.loop-key.invariant c.in_ok-insert.ensures.updates.0

pub returns : goal.returns
returns c = all_sorted c.args.rows.now c.loop-key.sorted c.loop-key.key-iterator c.in-None.ensures.steps.0 c.loop-key.invariant
