use Rattle.gts_standby.proofs.Cited.{length, drop, arith, length-drop, read_at}
use Rattle.gts_event.specs.Need.{begun}
use Rattle.gts_standby.proofs.TakeLemmas.{begun_on, ends_begun}
use Rattle.gts_standby.proofs.following.take_checkpoint.Goals as goal

pub returns-in-Ok-clause-taken : goal.returns-in-Ok-clause-taken
returns-in-Ok-clause-taken g c = λ observed told s fed h read.
    let b = c.in-Ok.ensures.begun observed told s fed h read in
    begun_on _ observed c.args.directory.now (read_at s c.args.standby.journal) fed _ _ _ _ c.begin.new.journal _ _ b c.add_all.result _ _ c.add_all.ensures.kind
    (c.add_all.ensures.added observed told (begun b.n) (drop b.size fed) (length fed) b.holds b.read (omega (arith, length-drop b.size fed)))

pub returns-clause-taken : goal.returns-clause-taken
returns-clause-taken g c = λ observed told s fed h read.
    ends_begun c.in-Err.end c.args.directory.now s c.args.standby.journal fed _ _ _ (h.stands observed) c.in-Err.ensures.kind
    (c.in-Err.ensures.begun observed told s fed h read)

pub returns-in-Ok-clause-whole : goal.returns-in-Ok-clause-whole
returns-in-Ok-clause-whole g c = λ told w. c.add_all.ensures.whole told (c.in-Ok.ensures.whole told w)

pub returns-clause-whole : goal.returns-clause-whole
returns-clause-whole g c = λ told w. c.in-Err.ensures.whole told w
