use Rattle.gts_lock.proofs.Cited.{rules, ◌∙◌, ap, arith}
use Rattle.gts_lock.proofs.StepsLemmas.{draws}
use Rattle.gts_lock.proofs.hall.Hall.draw.Goals as goal

pub compare_exchange-found-requires : goal.compare_exchange-found-requires
compare_exchange-found-requires g c = let i = c.loop.invariant in let two = c.self.invariant in
    (search rules, omega arith, draws g.T.HasHistory.stands _ _ _ _ (ap (λ (m : _). m.0.stage) i.1 ∙ c.requires.idle) i.2)
