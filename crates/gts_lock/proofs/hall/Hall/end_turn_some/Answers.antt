use Rattle.gts_lock.proofs.Cited.{rules, ◌∙◌, ap, sym, subst, arith, [], ◌∷◌, ◌++◌, Some, entries, rest}
use Rattle.gts_lock.proofs.StepsLemmas.{raises_some}
use Rattle.gts_lock.proofs.hall.Hall.end_turn_some.Goals as goal

pub fetch_add-served-requires : goal.fetch_add-served-requires
fetch_add-served-requires g c = let two = c.self.invariant in let x = c.exchange-before.ensures in let some = c.requires.stands in (
  search rules,
  omega arith,
  raises_some g.T.HasHistory.stands g.N.EntryFact.fact _ _ c.exchange-before.new.seat.me c.requires.holds.0 some.0 c.args.value
      (ap (λ (m : _). m.0.stage) x.3 ∙ c.requires.holds.1)
      (ap (λ (m : _). m.1) x.3 ∙ ap (λ (l : _). (0, Some c.args.value) ∷ rest l) c.requires.slot)
      some.1
      (subst (λ (m : _). g.T.HasHistory.stands c.args.value (entries m.0.seen ++ some.0 ∷ [])) (sym x.3) some.2),
)
