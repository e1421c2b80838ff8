use Rattle.gts_count.proofs.Cited.{List, map, take, sym, subst, IsTrue, is_ok, Bulletin, HasKeys, body_at, bulletin_of}
use Rattle.gts_count.proofs.StartingLemmas.{item_more, all_item}
use Rattle.gts_count.proofs.start.keys_of.Goals as goal

pub add_key-requires : goal.add_key-requires
add_key-requires c =
    all_item (λ (b : Bulletin). IsTrue (is_ok (body_at b.body))) bulletin_of c.args.bulletins.now c.loop-bulletin.bulletin-index c.bulletin-item.result c.requires c.loop-bulletin-test.true c.bulletin-item.is

pub loop-bulletin-preserved : goal.loop-bulletin-preserved
loop-bulletin-preserved c =
    let bs = c.args.bulletins.now in
    let i = c.loop-bulletin.bulletin-index in
    subst (λ (l : List Bulletin). HasKeys l c.add_key.new.keys) (sym (item_more bulletin_of bs i c.bulletin-item.result c.loop-bulletin-test.true c.bulletin-item.is))
    (c.in_ok-add_key.ensures (take i (map bulletin_of bs)) c.loop-bulletin.invariant)
