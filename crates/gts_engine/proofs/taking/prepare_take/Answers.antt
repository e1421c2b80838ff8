use Rattle.gts_engine.proofs.Cited.{sym, ap, subst, ◌∙◌, Core, Holds, choice_told, common_steps, arith}
use Rattle.gts_engine.proofs.TakingLemmas.{takes_draw, takes_none, repeat_unrecorded, nothing_unrecorded}
use Rattle.gts_engine.proofs.AnsweringLemmas.{may_core}
use Rattle.gts_engine.proofs.taking.prepare_take.Goals as goal

pub returns-in-Draw-clause-ready : goal.returns-in-Draw-clause-ready
returns-in-Draw-clause-ready g c = grind (arith, common_steps, takes_draw)

pub returns-in-Resend-clause-ready : goal.returns-in-Resend-clause-ready
returns-in-Resend-clause-ready g c =
    let old = c.args.parts.now in
    let m = c.make_room in
    let mid = m.new.parts in
    let core = may_core g.P.Station m.result old mid m.ensures.settles in
    takes_none mid c.args.c m.result m.ensures.saying
    (λ s holds. repeat_unrecorded mid.directory s c.args.c c.in-Resend.index
    (ap choice_told (sym c.in-Resend.is) ∙ c.requires.chosen mid.directory s (subst (λ (k : Core). Holds mid.directory k s) core holds)))

pub returns-in-Nothing-clause-ready : goal.returns-in-Nothing-clause-ready
returns-in-Nothing-clause-ready g c =
    let old = c.args.parts.now in
    let m = c.make_room-in-Nothing in
    let mid = m.new.parts in
    let core = may_core g.P.Station m.result old mid m.ensures.settles in
    takes_none mid c.args.c m.result m.ensures.saying
    (λ s holds. nothing_unrecorded mid.directory s c.args.c
    (ap choice_told (sym c.in-Nothing.is) ∙ c.requires.chosen mid.directory s (subst (λ (k : Core). Holds mid.directory k s) core holds)))
