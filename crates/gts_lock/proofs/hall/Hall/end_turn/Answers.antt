use Rattle.gts_lock.proofs.Cited.{rules, ◌∙◌, ap, sym, subst, arith, ◌∷◌, ◌++◌, Some, entries, rest}
use Rattle.gts_lock.proofs.StepsLemmas.{raises}
use Rattle.gts_lock.proofs.hall.Hall.end_turn.Goals as goal

pub fetch_add-served-requires : goal.fetch_add-served-requires
fetch_add-served-requires g c = let two = c.self.invariant in let x = c.exchange-before.ensures in (
  search rules,
  omega arith,
  raises g.T.HasHistory.stands _ _ c.exchange-before.new.seat.me c.requires.holds.0 g.N.Adds.added c.args.value
      (ap (λ (m : _). m.0.stage) x.3 ∙ c.requires.holds.1)
      (ap (λ (m : _). m.1) x.3 ∙ ap (λ (l : _). (0, Some c.args.value) ∷ rest l) c.requires.slot)
      c.requires.one
      (subst (λ (m : _). g.T.HasHistory.stands c.args.value (entries m.0.seen ++ g.N.Adds.added)) (sym x.3) c.requires.stands),
)
