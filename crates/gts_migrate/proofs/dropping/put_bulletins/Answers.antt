use Rattle.gts_migrate.proofs.Cited.{map, arith, bulletin_of, take_all, length-map, common_steps}
use Rattle.gts_migrate.proofs.DroppingLemmas.{in_order, body_here, bulletin_here, one_more_receipt, receipts_among}
use Rattle.gts_migrate.proofs.dropping.put_bulletins.Goals as goal

pub put_bulletin-requires-clause-order : goal.put_bulletin-requires-clause-order
put_bulletin-requires-clause-order c = in_order c.args.waiting.now c.requires.up

pub put_bulletin-requires-clause-body : goal.put_bulletin-requires-clause-body
put_bulletin-requires-clause-body c =
    let bs = c.args.bulletins.now in
    let i = c.loop-bulletin.bulletin-index in
    let b = c.bulletin-item.result in
    body_here (map bulletin_of bs) i (bulletin_of b) c.requires.bodies (omega (arith, length-map bs bulletin_of, c.loop-bulletin-test.true))
    (bulletin_here bs i b c.loop-bulletin-test.true c.bulletin-item.is)

pub loop-bulletin-preserved : goal.loop-bulletin-preserved
loop-bulletin-preserved c = grind (arith, common_steps, one_more_receipt)

pub returns : goal.returns
returns c = grind (arith, common_steps, take_all, receipts_among)
