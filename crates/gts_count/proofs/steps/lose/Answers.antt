use Rattle.gts_event.specs.declared.event.Event.TheVariants.{Lost}
use Rattle.gts_count.proofs.TakingLemmas.{counts_lost}
use Rattle.gts_count.proofs.CallLemmas.{counted_call}
use Rattle.gts_count.proofs.steps.lose.Goals as goal

pub returns-clause-called : goal.returns-clause-called
returns-clause-called g c =
    counted_call g.T.Switch.meanings (Lost c.args.c c.args.field) c.lost-answer.result c.args.parts.now _ c.lost-answer.ensures.called
    (λ o entries events stood told counts. counts_lost _ _ entries c.args.parts.now.counting c.note_heard.new.counting c.args.c c.args.field c.lost-answer.result c.note_heard.ensures.noted counts)
