use Rattle.gts_lock.proofs.Cited.{rules, ◌∙◌, ap, arith}
use Rattle.gts_lock.proofs.StepsLemmas.{looks}
use Rattle.gts_lock.proofs.hall.Hall.await_turn.Goals as goal

pub load-serving-requires : goal.load-serving-requires
load-serving-requires g c = let i = c.loop.invariant in let two = c.self.invariant in
    (search rules, omega arith, looks g.T.HasHistory.stands _ _ _ _ (ap (λ (m : _). m.0.stage) i.1 ∙ c.requires.waits))

pub loop-preserved : goal.loop-preserved
loop-preserved g c = let i = c.loop.invariant in
    (search rules, (c.load-serving.ensures.2 c.args.ticket (ap (λ (m : _). m.0.stage) i.1 ∙ c.requires.waits)).1 c.if-serving-ticket.false ∙ i.1)
