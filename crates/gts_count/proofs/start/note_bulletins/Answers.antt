use Rattle.gts_count.proofs.Cited.{List, map, take, sym, subst, Bulletin, NotesAll, bulletin_of}
use Rattle.gts_count.proofs.StartingLemmas.{item_more, all_more}
use Rattle.gts_count.proofs.start.note_bulletins.Goals as goal

pub loop-bulletin-preserved : goal.loop-bulletin-preserved
loop-bulletin-preserved c =
    let bs = c.args.bulletins.now in
    let i = c.loop-bulletin.bulletin-index in
    subst (λ (l : List Bulletin). NotesAll c.args.directory.now c.args.accepted l c.args.numbers.now c.note_bulletin.new.numbers)
    (sym (item_more bulletin_of bs i c.bulletin-item.result c.loop-bulletin-test.true c.bulletin-item.is))
    (all_more c.args.directory.now c.args.accepted (take i (map bulletin_of bs)) (bulletin_of c.bulletin-item.result) c.args.numbers.now c.loop-bulletin.numbers c.note_bulletin.new.numbers c.loop-bulletin.invariant c.in_ok-note_bulletin.ensures.notes)
