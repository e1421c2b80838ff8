use Rattle.gts_gap.proofs.Cited.{sym, subst, Adds, FrameStep as Step, events_of_signs, signs_of_step, numbers_of}
use Rattle.gts_gap.proofs.hearing.deal.Goals as goal

pub returns-in-Frame-clause-adds : goal.returns-in-Frame-clause-adds
returns-in-Frame-clause-adds c =
    let A : Step → Type 0 = λ step. Adds c.args.table.now c.hear.new.table (numbers_of (events_of_signs c.args.c (signs_of_step step c.args.message.now))) in
    subst A (sym c.in-Frame.is) (c.hear.ensures.adds c.in-Frame.field-0)
