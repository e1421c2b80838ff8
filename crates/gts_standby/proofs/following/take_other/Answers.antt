use Rattle.gts_standby.proofs.Cited.{inl, inr, refl, sym, ◌∙◌}
use Rattle.gts_standby.proofs.TakeLemmas.{unread_taken, anew_taken, behind_taken_over}
use Rattle.gts_standby.proofs.WholeLemmas.{whole_read, read_all}
use Rattle.gts_standby.proofs.OtherLemmas.{other_all}
use Rattle.gts_standby.proofs.following.take_other.Goals as goal

pub returns-in-Ok-true-clause-taken : goal.returns-in-Ok-true-clause-taken
returns-in-Ok-true-clause-taken g c = λ observed told s fed end h read is.
    let found = c.in-Ok-true.ensures.further told s fed h.kept.holds read in
    anew_taken c.take_checkpoint.result c.args.compared c.args.directory.now s c.args.standby.journal fed end _ _ _ c.requires.other is (sym c.in-Ok-true.field-0-test ∙ found.0)
    (c.take_checkpoint.ensures.taken observed told s fed h (found.1 c.in-Ok-true.field-0-test))

pub returns-in-Ok-false-clause-taken : goal.returns-in-Ok-false-clause-taken
returns-in-Ok-false-clause-taken g c = λ observed told s fed end h read is.
    let found = c.in-Ok-false.ensures.further told s fed h.kept.holds read in
    behind_taken_over c.args.compared c.args.directory.now s fed end _ c.args.standby.journal _ (h.stands observed) c.requires.other is (sym c.in-Ok-false.field-0-test ∙ found.0)

pub returns-in-Err-clause-taken : goal.returns-in-Err-clause-taken
returns-in-Err-clause-taken g c = λ observed told s fed end h read is.
    unread_taken c.args.directory.now s _ _ c.args.standby.journal _ _ (h.stands observed) (inr (inl refl)) c.in-Err.end c.in-Err.ensures.kind

pub returns-in-Ok-true-clause-whole : goal.returns-in-Ok-true-clause-whole
returns-in-Ok-true-clause-whole g c = λ told w.
    let found = c.in-Ok-true.ensures.further told c.requires.opened.state _ c.requires.opened.kept.holds (whole_read c.args.ahead.now _ w) in
    c.take_checkpoint.ensures.whole told (found.1 c.in-Ok-true.field-0-test).all

pub returns-in-Ok-false-clause-whole : goal.returns-in-Ok-false-clause-whole
returns-in-Ok-false-clause-whole g c = λ told w. other_all c.args.compared _ c.requires.other

pub returns-in-Err-clause-whole : goal.returns-in-Err-clause-whole
returns-in-Err-clause-whole g c = λ told w. read_all c.in-Err.end _ c.in-Err.ensures.kind
