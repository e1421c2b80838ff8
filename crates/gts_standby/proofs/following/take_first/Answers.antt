use Rattle.gts_standby.proofs.Cited.{length, inl, inr, refl, sym, ◌∙◌, arith}
use Rattle.gts_standby.proofs.TakeLemmas.{unread_taken, plain_taken, checkpoint_taken}
use Rattle.gts_standby.proofs.WholeLemmas.{whole_read, read_all}
use Rattle.gts_standby.proofs.following.take_first.Goals as goal

pub returns-in-Ok-false-clause-taken : goal.returns-in-Ok-false-clause-taken
returns-in-Ok-false-clause-taken g c = λ observed told s fed h first read.
    let here = c.in-Ok-false.ensures.first told fed read in
    plain_taken c.add_all.result c.args.directory.now s c.args.standby.journal fed _ _ _ (sym c.in-Ok-false.field-0-test ∙ here.0) c.add_all.ensures.kind
    (c.add_all.ensures.added observed told s fed (length fed) h here.1 (omega arith))

pub returns-in-Err-clause-taken : goal.returns-in-Err-clause-taken
returns-in-Err-clause-taken g c = λ observed told s fed h first read.
    unread_taken c.args.directory.now s _ _ c.args.standby.journal _ _ (h.stands observed) (inr (inl refl)) c.in-Err.end c.in-Err.ensures.kind

pub returns-in-Ok-true-clause-taken : goal.returns-in-Ok-true-clause-taken
returns-in-Ok-true-clause-taken g c = λ observed told s fed h first read.
    let here = c.in-Ok-true.ensures.first told fed read in
    checkpoint_taken c.take_checkpoint.result c.args.directory.now s c.args.standby.journal fed _ _ _ (sym c.in-Ok-true.field-0-test ∙ here.0) first
    (c.take_checkpoint.ensures.taken observed told s fed h here.1)

pub returns-in-Ok-false-clause-whole : goal.returns-in-Ok-false-clause-whole
returns-in-Ok-false-clause-whole g c = λ told w. c.add_all.ensures.whole told (c.in-Ok-false.ensures.first told _ (whole_read c.args.ahead.now _ w)).1.all

pub returns-in-Err-clause-whole : goal.returns-in-Err-clause-whole
returns-in-Err-clause-whole g c = λ told w. read_all c.in-Err.end _ c.in-Err.ensures.kind

pub returns-in-Ok-true-clause-whole : goal.returns-in-Ok-true-clause-whole
returns-in-Ok-true-clause-whole g c = λ told w. c.take_checkpoint.ensures.whole told (c.in-Ok-true.ensures.first told _ (whole_read c.args.ahead.now _ w)).1.all
